use Rattle.std.proofs.Common.{refl}
use Rattle.std.specs.Fmt.{digits}
use Rattle.iol_view.proofs.map_examples.areas.Goals as goal

pub returns : goal.returns
unfolding digits
returns c = record { in_use = refl; older = refl; undecided = refl; closed = refl; chosen = refl; other = refl; none = refl }
