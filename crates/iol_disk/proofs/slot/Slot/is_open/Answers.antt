use Rattle.std.proofs.Common.{rules}
use Rattle.iol_disk.specs.Gate.{is_open}
use Rattle.iol_disk.proofs.slot.Slot.is_open.Goals as goal

pub returns-clause-open : goal.returns-clause-open
unfolding is_open
returns-clause-open g c = search rules
