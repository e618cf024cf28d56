use Rattle.std.proofs.Common.{refl}
use Rattle.std.specs.Fmt.{digits}
use Rattle.iol_view.proofs.map_examples.open_slots.Goals as goal

pub returns : goal.returns
unfolding digits
returns c = record { several = refl; one = refl; behind = refl; empty = refl }
