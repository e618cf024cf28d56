-- A run of a journal at rest or while a batch is being written, and what a step does to it.
use Rattle.std.specs.Prelude.{◌≡◌, []}
use Rattle.iol_disk.specs.Disk.{Disk}
use Rattle.iol_journal.specs.Journals.{JournalView, WritingView}
use Rattle.iol_layout.specs.Meaning.{Standing}
use Rattle.iol_journal.specs.Runs.{Run, IsRun, number_of, state_of, with_batch_written}
use Rattle.iol_journal.specs.Pauses.{IsPaused, IsBeside}
use Rattle.iol_journal.specs.Phases.{IsAtRest}
use Rattle.iol_journal.specs.Underway.{IsUnderway}
use Rattle.iol_journal.specs.declared.writing.Progress.{Progress}
use Rattle.iol_journal.specs.declared.writing.Progress.TheVariants.{More, Done, Failed}

-- a run on a disk whose journal is at the run's number and state (own)
abbrev pub IsRunAt : Disk → Standing → Run → Type 0
IsRunAt d s r = IsRun d r × (s.number ≡ number_of r) × (s.state ≡ state_of r)

-- a run of a journal at rest: no batch is underway, and a checkpoint may be paused (own)
abbrev pub IsRunAtRest : {D : Type 0} → (D → Disk) → Run → JournalView D → Type 0
IsRunAtRest disk r j =
    IsAtRest (disk j.disk) j.standing j.idle × IsRunAt (disk j.disk) j.standing r × (r.underway ≡ [])
    × IsPaused (disk j.disk) j.standing j.begun

-- a run whose batch is being written; a checkpoint may be paused meanwhile (own)
abbrev pub IsRunWriting : {D : Type 0} → (D → Disk) → Run → WritingView D → Type 0
IsRunWriting disk r w =
    IsUnderway disk w × IsRunAt (disk w.disk) w.standing r × (r.underway ≡ w.commands) × IsBeside (disk w.disk) w.standing w.begun

-- a run after a step of a batch: the batch is still being written, or is written; after a disk fault it is still a
-- run (own)
abbrev pub HasStepped : {D : Type 0} → (D → Disk) → Run → Progress D → Type 0
HasStepped disk r (More writing) = IsRunWriting disk r writing
HasStepped disk r (Done journal written) = IsRunAtRest disk (with_batch_written r) journal
HasStepped disk r (Failed left fault) = IsRun (disk left) r
