-- What the functions of a store return.
use Rattle.std.specs.Prelude.{◌≡◌, ◌<◌, ℕ, ◌+◌, nat_lt, if◌then◌else◌, true, IsTrue, List, [], ◌∷◌, ◌++◌, Some, Result, Ok, Err}
use Rattle.iol_types.specs.Command.{CommandValue}
use Rattle.iol_types.specs.State.{State}
use Rattle.iol_disk.specs.Calls.{Call, Made, FailedIn}
use Rattle.iol_disk.specs.Disk.{Disk, Shows}
use Rattle.iol_journal.specs.Batches.{batch_calls}
use Rattle.iol_journal.specs.Begin.{batch_refusal}
use Rattle.iol_journal.specs.CheckpointViews.{begun_in}
use Rattle.iol_journal.specs.Pauses.{calls_of, end_in, IsPaused}
use Rattle.iol_journal.specs.Geometry.{Geometry}
use Rattle.iol_journal.specs.Journals.{JournalView}
use Rattle.iol_journal.specs.Kept.{EachMeans}
use Rattle.iol_journal.specs.Layout.{layout_of, total}
use Rattle.iol_journal.specs.Meaning.{Standing, is_formatted}
use Rattle.iol_journal.specs.Runs.{Run, IsRun}
use Rattle.iol_journal.specs.Running.{IsRunAtRest}
use Rattle.iol_journal.specs.Standings.{free_slots}
use Rattle.iol_journal.specs.Phases.{IsAtRest}
use Rattle.iol_journal.specs.RecoverCause.TheVariants.{NotFormatted, Damaged, TooSmall as NoSlot}
use Rattle.iol_journal.specs.declared.formatting.FormatFault.TheVariants.{TooSmall, AlreadyFormatted}
use Rattle.iol_journal.specs.declared.refusal.BeginCause.{BeginCause}
use Rattle.iol_journal.specs.declared.refusal.BeginCause.TheVariants.{Memory}
use Rattle.iol_example.specs.declared.store.CreateFault.{CreateFault}
use Rattle.iol_example.specs.declared.store.CreateFault.TheVariants.{Format, Recover}
use Rattle.iol_example.specs.declared.store.WriteFault.{WriteFault}
use Rattle.iol_example.specs.declared.store.WriteFault.TheVariants.{Refused, Failed}

-- the journal of a store is at rest on its disk, with a paused checkpoint, if there is one (own)
abbrev pub Rests : {D : Type 0} → (D → Disk) → JournalView D → Type 0
Rests disk j = IsAtRest (disk j.disk) j.standing j.idle × IsPaused (disk j.disk) j.standing j.begun

-- a store is at rest with this number and state: on an honest disk its journal has them, and each image means them
-- (own)
pub record RestsAt {D : Type 0} (disk : D → Disk) (number : ℕ) (state : State) (j : JournalView D) : Type 0 where
  pub rests : Rests disk j
  pub stands : IsTrue (disk j.disk).honest → (j.standing.number ≡ number) × (j.standing.state ≡ state)
  pub means : EachMeans (disk j.disk) number state

-- why a store was not created: a disk that is too small has fewer sectors than the geometry needs, and one already
-- formatted shows so; an honest disk is not found unformatted, damaged or without a slot once formatted (own)
abbrev pub IsCreateFault : Disk → Geometry → CreateFault → Type 0
IsCreateFault d g (Format TooSmall) = d.sectors < total (layout_of g)
IsCreateFault d g (Format AlreadyFormatted) = Shows d (λ image. is_formatted d.sectors image ≡ true)
IsCreateFault d g (Recover NotFormatted) = IsTrue d.honest → ⊥
IsCreateFault d g (Recover NoSlot) = IsTrue d.honest → ⊥
IsCreateFault d g (Recover (Damaged sector)) = IsTrue d.honest → ⊥
IsCreateFault d g fault = Unit {0}

-- the disk that a write returns, in the journal or by itself (own)
abbrev pub left_disk : {D : Type 0} → Result (JournalView D) (WriteFault D) → D
left_disk (Ok next) = next.disk
left_disk (Err (Refused back cause)) = back.disk
left_disk (Err (Failed left fault)) = left

-- a fact of the journal that a refusal returns, and of its cause (own)
abbrev pub IfRefused : {D : Type 0} → Result (JournalView D) (WriteFault D) → (JournalView D → BeginCause → Type 0) → Type 0
IfRefused (Err (Refused back cause)) P = P back cause
IfRefused answer P = Unit {0}

-- why a command is refused: out of memory, or the journal in its standing refuses the batch of this command alone (own)
abbrev pub IsRefusal : Standing → CommandValue → BeginCause → Type 0
IsRefusal s command Memory = Unit {0}
IsRefusal s command cause = batch_refusal s (s.number + 1) (command ∷ []) ≡ Some cause

-- the disk calls that free a slot if none is free, as in an older layout, and the standing of the journal once a slot
-- is free (own)
abbrev pub freeing_calls : {D : Type 0} → JournalView D → List Call
freeing_calls j = if nat_lt 0 (free_slots j.standing) then [] else calls_of j.standing (begun_in j)

abbrev pub with_slot : {D : Type 0} → JournalView D → Standing
with_slot j = if nat_lt 0 (free_slots j.standing) then j.standing else end_in j.standing (begun_in j)

-- the disk calls of a write: those that free a slot, and after them those of the command's batch (own)
abbrev pub write_calls : {D : Type 0} → JournalView D → CommandValue → List Call
write_calls j command = freeing_calls j ++ batch_calls (with_slot j) (command ∷ [])

-- the first of the calls were made in order, and each succeeded (own)
pub record MadeFirst (calls : List Call) (old new : Disk) : Type 0 where
  pub first : List Call
  pub left : List Call
  pub order : calls ≡ first ++ left
  pub made : Made first old new

-- the calls were made in order: all of them, those before a refusal, or those up to one that failed, which was counted
-- and whose fault is returned (own)
abbrev pub MakesCalls : {D : Type 0} → (D → Disk) → List Call → Disk → Result (JournalView D) (WriteFault D) → Type 0
MakesCalls disk calls old (Ok next) = Made calls old (disk next.disk)
MakesCalls disk calls old (Err (Refused back cause)) = MadeFirst calls old (disk back.disk)
MakesCalls disk calls old (Err (Failed left fault)) = FailedIn calls fault old (disk left)

-- a run after a write: the run with the command written; the run as it was, if the command is refused; and a run as it
-- was on a disk that failed (own)
abbrev pub LeavesRun : {D : Type 0} → (D → Disk) → Run → Run → Result (JournalView D) (WriteFault D) → Type 0
LeavesRun disk before written (Ok next) = IsRunAtRest disk written next
LeavesRun disk before written (Err (Refused back cause)) = IsRunAtRest disk before back
LeavesRun disk before written (Err (Failed left fault)) = IsRun (disk left) before
