use Rattle.iol_flush.proofs.Turns.{goes_on}
use Rattle.iol_flush.proofs.laws.goes_on.Goals as goal

pub returns : goal.returns
returns g c = goes_on g.D.SectorDisk.disk
