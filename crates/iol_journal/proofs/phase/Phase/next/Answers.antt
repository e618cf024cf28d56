use Rattle.std.proofs.Common.{rules}
use Rattle.iol_journal.proofs.phase.Phase.next.Goals as goal

pub returns-in-Gate : goal.returns-in-Gate
returns-in-Gate c = search rules

pub returns-in-Body-2 : goal.returns-in-Body-2
returns-in-Body-2 c = search rules
