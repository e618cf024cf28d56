use Rattle.std.proofs.Common.{rules}
use Rattle.iol_front.proofs.pass.Pass.learn.Goals as goal

pub returns-clause-told : goal.returns-clause-told
returns-clause-told g c = search rules
