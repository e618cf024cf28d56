use Rattle.std.proofs.Common.{refl}
use Rattle.std.specs.Fmt.{digits}
use Rattle.iol_check.proofs.examples.counts.Goals as goal

pub returns-clause-words : goal.returns-clause-words
unfolding digits
returns-clause-words c = refl
