use Rattle.std.proofs.Common.{rules}
use Rattle.iol_disk.proofs.fault_disk.FaultDisk.new.Goals as goal

pub returns-clause-due : goal.returns-clause-due
returns-clause-due g c = search rules
