use Rattle.std.proofs.Common.{rules}
use Rattle.iol_disk.proofs.recorded_disk.RecordedDiskSectorDisk.write.Goals as goal

pub returns-clause-recorded : goal.returns-clause-recorded
returns-clause-recorded g c = search rules
