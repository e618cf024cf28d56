use Rattle.iol_flush.proofs.RunLaws.{accepts_more}
use Rattle.iol_flush.proofs.laws.accepts_more.Goals as goal

pub returns : goal.returns
returns g c = accepts_more g.D.SectorDisk.disk
