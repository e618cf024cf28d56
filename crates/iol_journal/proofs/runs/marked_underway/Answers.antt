use Rattle.iol_journal.proofs.RunSteps.{marked_underway}
use Rattle.iol_journal.proofs.runs.marked_underway.Goals as goal

pub returns : goal.returns
returns g c = marked_underway g.D.SectorDisk.disk
