use Rattle.std.proofs.Common.{rules}
use Rattle.iol_journal.proofs.stage.CheckpointStage.can_pause.Goals as goal

pub returns : goal.returns
returns c = search rules
