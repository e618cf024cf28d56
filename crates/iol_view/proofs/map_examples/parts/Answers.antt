use Rattle.std.proofs.Common.{refl}
use Rattle.std.specs.Fmt.{digits}
use Rattle.iol_view.proofs.map_examples.parts.Goals as goal

pub returns : goal.returns
unfolding digits
returns c = record { areas = refl; ports = refl; slot = refl; unused = refl }
