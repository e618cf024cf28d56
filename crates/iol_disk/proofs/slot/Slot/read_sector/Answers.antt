use Rattle.std.proofs.Common.{rules}
use Rattle.iol_disk.proofs.slot.Slot.read_sector.Goals as goal

pub returns-clause-read : goal.returns-clause-read
returns-clause-read g c = search rules
