use Rattle.std.proofs.Common.{refl}
use Rattle.std.specs.Fmt.{digits}
use Rattle.iol_check.proofs.examples.lines.Goals as goal

pub returns : goal.returns
unfolding digits
returns c = record { several = refl; single = refl }
