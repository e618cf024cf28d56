-- A checkpoint that is being written, as contracts see it.
use Rattle.std.specs.Prelude.{List, Some, unwrap_or}
use Rattle.iol_disk.specs.Calls.{Call}
use Rattle.iol_disk.specs.Disk.{Disk}
use Rattle.iol_journal.specs.BegunViews.{BegunView}
use Rattle.iol_journal.specs.Checkpoints.{new_begun}
use Rattle.iol_journal.specs.Drafts.{idle_at}
use Rattle.iol_journal.specs.Journals.{JournalView}
use Rattle.iol_layout.specs.Meaning.{Standing}
use Rattle.iol_journal.specs.declared.history.History.{History}
use Rattle.iol_journal.specs.Pauses.{end_in, calls_of, IsDrawnUp}

-- a checkpoint that is being written, as contracts see it: the disk, the journal's standing and history, and how far
-- the checkpoint is (own)
pub record CheckpointingView (D : Type 0) : Type 0 where
  pub disk : D
  pub standing : Standing
  pub history : History
  pub begun : BegunView

-- the checkpoint that comes next for a journal at rest: the paused one, or a new one (own)
abbrev pub begun_in : {D : Type 0} → JournalView D → BegunView
begun_in j = unwrap_or j.begun (new_begun j.standing j.idle)

-- a journal with a checkpoint before its next disk call: the paused one, or a new one (own)
abbrev pub checkpoint_of : {D : Type 0} → JournalView D → CheckpointingView D
checkpoint_of j = record { disk = j.disk; standing = j.standing; history = j.history; begun = begun_in j }

-- the journal at rest while a checkpoint is paused (own)
abbrev pub paused_in : {D : Type 0} → CheckpointingView D → JournalView D
paused_in c = record {
  disk = c.disk;
  standing = c.standing;
  idle = idle_at c.begun.stage;
  history = c.history;
  begun = Some c.begun;
}

-- the journal's standing once the checkpoint is done (own)
abbrev pub end_of : {D : Type 0} → CheckpointingView D → Standing
end_of c = end_in c.standing c.begun

-- the disk calls that a checkpoint still makes (own)
abbrev pub stages_left : {D : Type 0} → CheckpointingView D → List Call
stages_left c = calls_of c.standing c.begun

-- a checkpoint is being written: if the disk is honest, what its stage says holds (own)
abbrev pub IsCheckpointUnderway : {D : Type 0} → (D → Disk) → CheckpointingView D → Type 0
IsCheckpointUnderway disk c = IsDrawnUp (disk c.disk) c.standing c.begun
