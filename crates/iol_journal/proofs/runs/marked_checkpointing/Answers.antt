use Rattle.iol_journal.proofs.RunSteps.{marked_checkpointing}
use Rattle.iol_journal.proofs.runs.marked_checkpointing.Goals as goal

pub returns : goal.returns
returns g c = marked_checkpointing g.D.SectorDisk.disk
