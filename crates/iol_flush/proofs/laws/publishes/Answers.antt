use Rattle.iol_flush.proofs.RunLaws.{publishes}
use Rattle.iol_flush.proofs.laws.publishes.Goals as goal

pub returns : goal.returns
returns g c = publishes g.D.SectorDisk.disk
