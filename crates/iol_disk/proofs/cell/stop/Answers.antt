use Rattle.std.proofs.Common.{rules}
use Rattle.iol_disk.proofs.cell.stop.Goals as goal

pub returns-after-pick-clause-left : goal.returns-after-pick-clause-left
returns-after-pick-clause-left c = search rules
