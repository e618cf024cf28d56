use Rattle.iol_flush.proofs.RunLaws.{gives}
use Rattle.iol_flush.proofs.laws.gives.Goals as goal

pub returns : goal.returns
returns g c = gives g.D.SectorDisk.disk
