use Rattle.iol_flush.proofs.RunLaws.{holds}
use Rattle.iol_flush.proofs.laws.holds.Goals as goal

pub returns : goal.returns
returns g c = holds g.D.SectorDisk.disk
