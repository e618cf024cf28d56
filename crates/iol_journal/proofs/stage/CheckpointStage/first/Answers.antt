use Rattle.std.proofs.Common.{rules}
use Rattle.iol_journal.proofs.stage.CheckpointStage.first.Goals as goal

pub returns-in-Closed : goal.returns-in-Closed
returns-in-Closed c = search rules
