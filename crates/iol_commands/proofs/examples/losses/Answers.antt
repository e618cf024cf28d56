use Rattle.std.proofs.Common.{refl}
use Rattle.std.specs.Fmt.{digits}
use Rattle.iol_commands.proofs.examples.losses.Goals as goal

pub returns-clause-once : goal.returns-clause-once
unfolding digits
returns-clause-once c = refl

pub returns-clause-of_another_port : goal.returns-clause-of_another_port
unfolding digits
returns-clause-of_another_port c = refl

pub returns-clause-alone : goal.returns-clause-alone
unfolding digits
returns-clause-alone c = refl
