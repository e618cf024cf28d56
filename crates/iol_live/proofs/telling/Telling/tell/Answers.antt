use Rattle.std.proofs.Common.{rules}
use Rattle.iol_live.proofs.telling.Telling.tell.Goals as goal

pub returns-in-Nothing : goal.returns-in-Nothing
returns-in-Nothing g c = search rules
