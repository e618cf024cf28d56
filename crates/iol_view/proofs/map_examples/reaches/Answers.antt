use Rattle.std.proofs.Common.{refl}
use Rattle.iol_view.proofs.map_examples.reaches.Goals as goal

pub returns : goal.returns
returns c = record { first = refl; behind = refl }
