use Rattle.std.proofs.Common.{ℕ, List, ◌++◌, length, ap}
use Rattle.iol_disk.specs.declared.disk.TheConstants.{SECTOR_OCTETS}
use Rattle.iol_layout.specs.Octets.{padded}
use Rattle.iol_layout.proofs.Paddings.{drop-zeros, one_sector}
use Rattle.iol_layout.proofs.sector.sector_of.Goals as goal

pub returns : goal.returns
unfolding padded
returns c =
    let n = length c.args.octets.now in
    rw (c.copy_from_slice.ensures.after, one_sector n c.requires.some c.requires.most)
    (ap (λ (zeros : List ℕ). c.args.octets.now ++ zeros) (drop-zeros n SECTOR_OCTETS c.requires.most))
