-- A core, and the flusher that writes its batches to the disk.
use Rattle.std.specs.Prelude.{◌≡◌, ◌≤◌, ℕ, ◌+◌, true, List, ◌++◌, length, drop, Option, Some, None}
use Rattle.iol_types.specs.Command.{CommandValue}
use Rattle.iol_types.specs.State.{after}
use Rattle.iol_disk.specs.Content.{clock}
use Rattle.iol_disk.specs.Disk.{Disk}
use Rattle.iol_core.specs.Core.{CoreView}
use Rattle.iol_core.specs.Submit.{writes_no_more}
use Rattle.iol_flush.specs.Flushing.{GoesOn, IsFlushing}
use Rattle.iol_flush.specs.Stages.{FlusherView, disk_of}
use Rattle.iol_flush.specs.declared.stage.FlushStage.{FlushStage}
use Rattle.iol_flush.specs.declared.stage.FlushStage.TheVariants.{Resting, Opening, Given, Checkpointing, Writing, Publishing, Failed}
use Rattle.iol_front.specs.Fronts.{Start, CommittedView}
use Rattle.iol_journal.specs.Body.{values}
use Rattle.iol_journal.specs.Runs.{Mark}

-- a core and its flusher as contracts see them, and the batch that is published and not yet acknowledged, if there is one
-- (own)
pub record CoreOnDiskView (D : Type 0) : Type 0 where
  pub core : CoreView
  pub flusher : FlusherView D
  pub committed : Option CommittedView

-- these commands are the batch in flight: the first of the queue, at least one (own)
pub record IsInFlight (core : CoreView) (commands : List CommandValue) : Type 0 where
  pub behind : List CommandValue
  pub queue : core.queue ≡ commands ++ behind
  pub flight : core.flight ≡ length commands
  pub some : 1 ≤ length commands

-- the durable state and number are those after this list of commands (own)
pub record IsDurable (start : Start) (core : CoreView) (list : List CommandValue) : Type 0 where
  pub number : core.number ≡ start.number + length list
  pub state : core.durable ≡ after start.state list

-- what is in flight is with the flusher: its batch, or nothing if it has none. Once a disk call has failed, the core knows it
-- (own)
abbrev pub HasFlight : {D : Type 0} → CoreView → FlushStage D → Type 0
HasFlight core (Resting journal) = core.flight ≡ 0
HasFlight core (Opening checkpoint) = core.flight ≡ 0
HasFlight core (Given journal batch) = IsInFlight core (values batch.commands.items)
HasFlight core (Checkpointing checkpoint batch) = IsInFlight core (values batch.commands.items)
HasFlight core (Writing writing) = IsInFlight core writing.commands
HasFlight core (Publishing journal written) = IsInFlight core written.commands
HasFlight core (Failed disk fault) = writes_no_more core.stopped ≡ true

-- the journal is at rest (own)
abbrev pub IsAtRest : {D : Type 0} → FlushStage D → Type 0
IsAtRest (Resting journal) = Unit {0}
IsAtRest stage = ⊥

-- all that is published is acknowledged, and what is in flight is with the flusher, and continues where the journal ends; or
-- the last published batch is still in flight, and the flusher rests (own)
abbrev pub IsInStep : {D : Type 0} → Start → CoreView → FlusherView D → Option CommittedView → Type 0
IsInStep start core flusher None = IsDurable start core flusher.published × HasFlight core flusher.stage × GoesOn flusher.stage
IsInStep start core flusher (Some committed) =
    IsDurable start core committed.before × (flusher.published ≡ committed.before ++ committed.commands)
    × IsInFlight core committed.commands × IsAtRest flusher.stage

-- the commands that wait after the published list (own)
abbrev pub waiting_of : Option CommittedView → CoreView → List CommandValue
waiting_of None core = core.queue
waiting_of (Some committed) core = drop (length committed.commands) core.queue

-- all commands that were accepted since the start, in their order (own)
abbrev pub accepted_in : {D : Type 0} → CoreOnDiskView D → List CommandValue
accepted_in master = master.flusher.published ++ waiting_of master.committed master.core

-- the clock of a master's disk (own)
abbrev pub clock_of : {D : Type 0} → (D → Disk) → CoreOnDiskView D → ℕ
clock_of disk master = clock (disk (disk_of master.flusher.stage)).content

-- a master's journal has a run, with what was acknowledged at these moments (own)
abbrev pub IsRunning : {D : Type 0} → (D → Disk) → Start → List Mark → CoreOnDiskView D → Type 0
IsRunning disk start marks master =
    IsFlushing disk start.number start.state master.flusher.published (waiting_of master.committed master.core) marks master.flusher.stage

-- every run that the master's journal had, it still has (own)
pub record KeepsRunning {D : Type 0} (disk : D → Disk) (start : Start) (old new : CoreOnDiskView D) : Type 0 where
  pub goes_on : (marks : List Mark) → IsRunning disk start marks old → IsRunning disk start marks new
