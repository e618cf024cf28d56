use Rattle.std.proofs.Common.{rules}
use Rattle.iol_front.proofs.pass.Pass.meet.Goals as goal

pub returns-clause-met : goal.returns-clause-met
returns-clause-met g c = search rules

pub returns-clause-brought : goal.returns-clause-brought
returns-clause-brought g c = search rules
