use Rattle.std.proofs.Common.{refl}
use Rattle.iol_layout.proofs.body.head_octets.Goals as goal

pub returns : goal.returns
returns c =
    rw (
      c.copy_from_slice.ensures.after,
      c.to_be_bytes.ensures,
      c.copy_from_slice-2.ensures.after,
      c.to_be_bytes-2.ensures,
      c.copy_from_slice-3.ensures.after,
      c.to_be_bytes-3.ensures,
      c.copy_from_slice-4.ensures.after,
      c.to_be_bytes-4.ensures,
    )
    refl
