-- The results of a step of a batch.
use Rattle.std.specs.Prelude.{◌≡◌, ◌+◌, List, [], Ok, Err}
use Rattle.std.specs.Option.{option_map}
use Rattle.iol_disk.specs.Calls.{Call, MakesFirst}
use Rattle.iol_disk.specs.Disk.{Disk}
use Rattle.iol_journal.specs.Planned.{written_after}
use Rattle.iol_journal.specs.Drafts.{with_owed}
use Rattle.iol_layout.specs.Standings.{with_batch}
use Rattle.iol_journal.specs.Journals.{JournalView, WritingView, calls_left}
use Rattle.iol_journal.specs.Written.{WrittenView}
use Rattle.iol_journal.specs.declared.writing.Progress.{Progress}
use Rattle.iol_journal.specs.declared.writing.Progress.TheVariants.{More, Done, Failed}

-- the disk in the result of a step (own)
abbrev pub stepped_disk : {D : Type 0} → Progress D → D
stepped_disk (More writing) = writing.disk
stepped_disk (Done journal written) = journal.disk
stepped_disk (Failed disk fault) = disk

-- a claim about the result of a step, if more steps are needed, or if the batch is done (own)
abbrev pub IfMore : {D : Type 0} → Progress D → (WritingView D → Type 0) → Type 0
IfMore (More writing) P = P writing
IfMore progress P = Unit {0}

abbrev pub IfDone : {D : Type 0} → Progress D → (JournalView D → WrittenView → Type 0) → Type 0
IfDone (Done journal written) P = P journal written
IfDone progress P = Unit {0}

-- a batch after one of its disk calls, if more are needed: only its disk and phase changed (own)
pub record IsBatchMoved {D : Type 0} (w v : WritingView D) : Type 0 where
  pub standing : v.standing ≡ w.standing
  pub idle : v.idle ≡ w.idle
  pub history : v.history ≡ w.history
  pub begun : v.begun ≡ w.begun
  pub commands : v.commands ≡ w.commands

-- the journal after the last disk call of a batch: the batch follows those before it, and is owed to the paused checkpoint, if one
-- is paused (own)
pub record IsBatchDone {D : Type 0} (w : WritingView D) (j : JournalView D) (written : WrittenView) : Type 0 where
  pub standing : j.standing ≡ with_batch w.standing w.commands
  pub idle : j.idle ≡ w.idle
  pub history : j.history ≡ written_after w.history w.commands
  pub begun : j.begun ≡ option_map (with_owed w.commands) w.begun
  pub first : written.first ≡ w.standing.number + 1
  pub commands : written.commands ≡ w.commands

-- a step makes the first of the remaining calls, or fails in it (own)
abbrev pub StepMakes : {D : Type 0} → (D → Disk) → List Call → Progress D → Disk → Type 0
StepMakes disk calls (More writing) old = MakesFirst calls (calls_left writing) old (disk writing.disk) (Ok tt)
StepMakes disk calls (Done journal written) old = MakesFirst calls [] old (disk journal.disk) (Ok tt)
StepMakes disk calls (Failed left fault) old = (others : List Call) × MakesFirst calls others old (disk left) (Err fault)
