use Rattle.std.proofs.Common.{refl}
use Rattle.iol_layout.proofs.header.Header.octets.Goals as goal

pub returns : goal.returns
returns c = rw (
  c.sector_of.ensures,
  c.copy_from_slice.ensures.after,
  c.to_be_bytes.ensures,
  c.copy_from_slice-2.ensures.after,
  c.to_be_bytes-2.ensures,
  c.name_of.ensures,
) refl
