use Rattle.std.proofs.Common.{rules}
use Rattle.iol_journal.proofs.stage.CheckpointStage.owing.Goals as goal

pub returns-in-OpenGate : goal.returns-in-OpenGate
returns-in-OpenGate c = search rules
