use Rattle.std.proofs.Common.{refl}
use Rattle.std.specs.Fmt.{digits}
use Rattle.iol_wire.proofs.examples.longest_lines.Goals as goal

pub returns-clause-reached : goal.returns-clause-reached
unfolding digits
returns-clause-reached c = refl
