use Rattle.std.proofs.Common.{rules}
use Rattle.iol_disk.proofs.cell.settle.Goals as goal

pub returns-in-Some : goal.returns-in-Some
returns-in-Some c = search rules
