-- The results of a step of a checkpoint.
use Rattle.std.specs.Prelude.{◌≡◌, List, [], Some, None, Ok, Err}
use Rattle.iol_disk.specs.Calls.{Call, MakesFirst}
use Rattle.iol_disk.specs.Disk.{Disk}
use Rattle.iol_journal.specs.Drafts.{begun_after}
use Rattle.iol_layout.specs.Layout.{renewed}
use Rattle.iol_layout.specs.declared.idle.Idle.TheVariants.{Older}
use Rattle.iol_journal.specs.Journals.{JournalView}
use Rattle.iol_journal.specs.declared.checkpointing.CheckpointProgress.{CheckpointProgress}
use Rattle.iol_journal.specs.declared.checkpointing.CheckpointProgress.TheVariants.{More, Done, Failed}
use Rattle.iol_journal.specs.CheckpointViews.{CheckpointingView, end_of, stages_left}

-- the disk in the result of a step (own)
abbrev pub checkpoint_disk : {D : Type 0} → CheckpointProgress D → D
checkpoint_disk (More checkpointing) = checkpointing.disk
checkpoint_disk (Done journal) = journal.disk
checkpoint_disk (Failed disk fault) = disk

-- a claim about the result of a step, if more steps are needed, or if the checkpoint is done (own)
abbrev pub IfGoesOn : {D : Type 0} → CheckpointProgress D → (CheckpointingView D → Type 0) → Type 0
IfGoesOn (More checkpointing) P = P checkpointing
IfGoesOn progress P = Unit {0}

abbrev pub IfCheckpointed : {D : Type 0} → CheckpointProgress D → (JournalView D → Type 0) → Type 0
IfCheckpointed (Done journal) P = P journal
IfCheckpointed progress P = Unit {0}

-- a checkpoint after one of its disk calls, if more are needed (own)
pub record IsCheckpointMoved {D : Type 0} (c d : CheckpointingView D) : Type 0 where
  pub standing : d.standing ≡ c.standing
  pub history : d.history ≡ c.history
  pub behind : begun_after c.standing c.begun ≡ Some d.begun
  pub end : end_of d ≡ end_of c

-- the journal after the last disk call of a checkpoint: the other area is in use, in the newest layout and under the next epoch,
-- with the carried batches, at the same number and state (own)
pub record IsCheckpointDone {D : Type 0} (c : CheckpointingView D) (j : JournalView D) : Type 0 where
  pub standing : j.standing ≡ end_of c
  pub idle : j.idle ≡ Older
  pub history : j.history ≡ c.history
  pub none : j.begun ≡ None
  pub number : j.standing.number ≡ c.standing.number
  pub state : j.standing.state ≡ c.standing.state
  pub layout : j.standing.layout ≡ renewed c.standing.layout

-- a step makes the first of the remaining calls, or fails in it (own)
abbrev pub CheckpointStepMakes : {D : Type 0} → (D → Disk) → List Call → CheckpointProgress D → Disk → Type 0
CheckpointStepMakes disk calls (More checkpointing) old = MakesFirst calls (stages_left checkpointing) old (disk checkpointing.disk) (Ok tt)
CheckpointStepMakes disk calls (Done journal) old = MakesFirst calls [] old (disk journal.disk) (Ok tt)
CheckpointStepMakes disk calls (Failed left fault) old = (others : List Call) × MakesFirst calls others old (disk left) (Err fault)
