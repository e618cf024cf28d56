-- A begun checkpoint, as contracts see it.
use Rattle.std.specs.Prelude.{List}
use Rattle.iol_types.specs.Command.{CommandValue}
use Rattle.iol_layout.specs.Meaning.{Log}
use Rattle.iol_journal.specs.declared.stage.CheckpointStage.{CheckpointStage}

-- a begun checkpoint: the log of the area that it writes, the batches that are still to be carried there, oldest first, and
-- its next disk call (own)
pub record BegunView : Type 0 where
  pub log : Log
  pub owed : List (List CommandValue)
  pub stage : CheckpointStage
