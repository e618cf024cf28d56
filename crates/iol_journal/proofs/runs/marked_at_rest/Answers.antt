use Rattle.iol_journal.proofs.RunSteps.{marked_at_rest}
use Rattle.iol_journal.proofs.runs.marked_at_rest.Goals as goal

pub returns : goal.returns
returns g c = marked_at_rest g.D.SectorDisk.disk
