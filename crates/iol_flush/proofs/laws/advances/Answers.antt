use Rattle.iol_flush.proofs.Turns.{advances}
use Rattle.iol_flush.proofs.laws.advances.Goals as goal

pub returns : goal.returns
returns g c = advances g.D.SectorDisk.disk
