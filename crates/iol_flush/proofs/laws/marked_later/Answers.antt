use Rattle.iol_flush.proofs.RunLaws.{marked_later}
use Rattle.iol_flush.proofs.laws.marked_later.Goals as goal

pub returns : goal.returns
returns g c = marked_later g.D.SectorDisk.disk
