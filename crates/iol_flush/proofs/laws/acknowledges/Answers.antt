use Rattle.iol_flush.proofs.RunLaws.{acknowledges}
use Rattle.iol_flush.proofs.laws.acknowledges.Goals as goal

pub returns : goal.returns
returns g c = acknowledges g.D.SectorDisk.disk
