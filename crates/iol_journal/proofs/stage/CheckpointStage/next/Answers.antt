use Rattle.std.proofs.Common.{rules}
use Rattle.iol_journal.proofs.stage.CheckpointStage.next.Goals as goal

pub returns-in-SyncClosed : goal.returns-in-SyncClosed
returns-in-SyncClosed c = search rules

pub returns-in-SyncRecords : goal.returns-in-SyncRecords
returns-in-SyncRecords c = search rules
