-- A run of a journal while the flusher holds the journal.
use Rattle.std.specs.Prelude.{◌≡◌, ℕ, true, false, IsTrue, List, [], ◌++◌, All}
use Rattle.iol_types.specs.Command.{CommandValue}
use Rattle.iol_types.specs.State.{State, legal}
use Rattle.iol_disk.specs.Content.{Image, IsImageSince}
use Rattle.iol_disk.specs.Disk.{Disk}
use Rattle.iol_journal.specs.Begin.{fits_no_area, follows}
use Rattle.iol_journal.specs.CheckpointRuns.{IsRunCheckpointing}
use Rattle.iol_journal.specs.Journals.{JournalView}
use Rattle.iol_journal.specs.Body.{values}
use Rattle.iol_journal.specs.Meaning.{Standing}
use Rattle.iol_journal.specs.Runs.{Run, Mark, HasPrefix, IsRun}
use Rattle.iol_journal.specs.Running.{IsRunAtRest, IsRunWriting}
use Rattle.iol_journal.specs.Phases.{IsAtRest}
use Rattle.iol_journal.specs.Underway.{IsUnderway}
use Rattle.iol_journal.specs.CheckpointViews.{IsCheckpointUnderway}
use Rattle.iol_journal.specs.Pauses.{IsPaused, IsBeside}
use Rattle.iol_journal.specs.declared.batch.Batch.{Batch}
use Rattle.iol_flush.specs.declared.stage.FlushStage.{FlushStage}
use Rattle.iol_flush.specs.declared.stage.FlushStage.TheVariants.{Resting, Opening, Given, Checkpointing, Writing, Publishing, Failed}

-- a run that began with a number and a state: the written commands, those of the batch underway, those that wait after it, and
-- moments (own)
abbrev pub run_of : ℕ → State → List CommandValue → List CommandValue → List CommandValue → List Mark → Run
run_of number state written underway queued marks = record {
  first = number;
  start = state;
  written = written;
  underway = underway;
  queued = queued;
  marks = marks;
}

-- commands are the first of the waiting ones (own)
abbrev pub AreFirst : List CommandValue → List CommandValue → Type 0
AreFirst commands waiting = (later : List CommandValue) × (waiting ≡ commands ++ later)

-- a flusher has a run of its journal, which began with a number and a state: of the accepted commands, some are published and the
-- others wait; a batch that is given, underway or not yet published is the first of the waiting ones (own)
abbrev pub IsFlushing : {D : Type 0} → (D → Disk) → ℕ → State → List CommandValue → List CommandValue → List Mark → FlushStage D → Type 0
IsFlushing disk number state published waiting marks (Resting journal) =
    IsRunAtRest disk (run_of number state published [] waiting marks) journal
IsFlushing disk number state published waiting marks (Opening checkpoint) =
    IsRunCheckpointing disk (run_of number state published [] waiting marks) checkpoint
IsFlushing disk number state published waiting marks (Given journal batch) =
    AreFirst (values batch.commands.items) waiting × IsRunAtRest disk (run_of number state published [] waiting marks) journal
IsFlushing disk number state published waiting marks (Checkpointing checkpoint batch) =
    AreFirst (values batch.commands.items) waiting × IsRunCheckpointing disk (run_of number state published [] waiting marks) checkpoint
IsFlushing disk number state published waiting marks (Writing writing) =
    (later : List CommandValue) × (waiting ≡ writing.commands ++ later)
    × IsRunWriting disk (run_of number state published writing.commands later marks) writing
IsFlushing disk number state published waiting marks (Publishing journal written) =
    (later : List CommandValue) × (waiting ≡ written.commands ++ later)
    × IsRunAtRest disk (run_of number state (published ++ written.commands) [] later marks) journal
IsFlushing disk number state published waiting marks (Failed left fault) =
    (underway later : List CommandValue) × (waiting ≡ underway ++ later)
    × IsRun (disk left) (run_of number state published underway later marks)

-- a batch follows a journal and fits an area (own)
pub record FitsBatch (standing : Standing) (batch : Batch) : Type 0 where
  pub small : fits_no_area standing (values batch.commands.items) ≡ false
  pub next : follows standing batch.first (values batch.commands.items) ≡ true

-- a given batch that is still to be begun follows the journal and fits an area (own)
abbrev pub GoesOn : {D : Type 0} → FlushStage D → Type 0
GoesOn (Given journal batch) = FitsBatch journal.standing batch
GoesOn (Checkpointing checkpoint batch) = FitsBatch checkpoint.standing batch
GoesOn stage = Unit {0}

-- each run that a flusher had of its journal, it still has (own)
pub record KeepsRun {D : Type 0} (disk : D → Disk) (old new : FlushStage D) : Type 0 where
  pub goes_on : (number : ℕ) (state : State) (published waiting : List CommandValue) (marks : List Mark)
      → IsFlushing disk number state published waiting marks old → IsFlushing disk number state published waiting marks new

-- each command accepted from a number and a state on passes in the state that it meets; and every image of an honest disk since a
-- moment has all commands acknowledged by then, and after them only the next ones, in order (own)
pub record HoldsBy (d : Disk) (number : ℕ) (state : State) (commands : List CommandValue) (marks : List Mark) : Type 0 where
  pub passes : legal state commands ≡ true
  pub images : All (λ mark. IsTrue d.honest → (image : Image) → IsImageSince mark.clock d.content image
      → HasPrefix d.sectors number state commands mark.acknowledged image) marks

-- a journal is at rest, and its paused checkpoint, if there is one, can be continued (own)
abbrev pub Rests : {D : Type 0} → (D → Disk) → JournalView D → Type 0
Rests disk j = IsAtRest (disk j.disk) j.standing j.idle × IsPaused (disk j.disk) j.standing j.begun

-- at each stage of a flusher, every image that a power stop of an honest disk may leave is kept: the journal is at rest, or its
-- batch or checkpoint is underway; nothing is claimed of a failed disk (own)
abbrev pub IsSound : {D : Type 0} → (D → Disk) → FlushStage D → Type 0
IsSound disk (Resting journal) = Rests disk journal
IsSound disk (Opening checkpoint) = IsCheckpointUnderway disk checkpoint
IsSound disk (Given journal batch) = Rests disk journal
IsSound disk (Checkpointing checkpoint batch) = IsCheckpointUnderway disk checkpoint
IsSound disk (Writing writing) = IsUnderway disk writing × IsBeside (disk writing.disk) writing.standing writing.begun
IsSound disk (Publishing journal written) = Rests disk journal
IsSound disk (Failed left fault) = Unit {0}
