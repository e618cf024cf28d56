-- A run of a master, and what holds of it.
use Rattle.std.specs.Prelude.{◌≡◌, ℕ, ◌++◌, List, length}
use Rattle.iol_disk.specs.Disk.{Disk}
use Rattle.iol_front.specs.Fronts.{Start}
use Rattle.iol_link.specs.Link.{LinkCall, LinkAnswer}
use Rattle.iol_core.specs.CrashPrefix.{marks_of}
use Rattle.iol_core.specs.Events.{Event, Stamp, stamped}
use Rattle.iol_core.specs.Words.{accepted, numbers, acked, RiseByOne}
use Rattle.iol_run.specs.CoreOnDisk.{CoreOnDiskView, accepted_in, clock_of, IsRunning}
use Rattle.iol_engine.specs.Ports.{PortsView}
use Rattle.iol_run.specs.Steps.{Does}
use Rattle.iol_run.specs.declared.turn.Turned.{Turned}
use Rattle.iol_run.specs.declared.step.Step.{Step}

-- a run as contracts see it: its master, the ports, its events, and the disk's clock when it began (own)
pub record RunView (D L : Type 0) : Type 0 where
  pub master : CoreOnDiskView D
  pub ports : PortsView L
  pub events : List Stamp
  pub begun : ℕ

-- the events say what happened: the commands reported as accepted are those of the master, under numbers that rise by one
-- from the start on, and the number reported last as acknowledged is the core's (own)
pub record IsTold {D : Type 0} (start : Start) (master : CoreOnDiskView D) (events : List Stamp) : Type 0 where
  pub accepted_is : accepted events ≡ accepted_in master
  pub rise : RiseByOne start.number (numbers events)
  pub count : length (numbers events) ≡ length (accepted events)
  pub acked_is : acked start.number events ≡ master.core.number

module _ {D L : Type 0} (disk : D → Disk) (number : L → ℕ) (steps : L → LinkCall → LinkAnswer → L → Type 0) where
  -- a step was made, and its events are stamped with the disk's clock after it (own)
  abbrev pub Did : Step → Turned → RunView D L → RunView D L → Type 0
  Did step turned old new =
      (told : List Event) × Does disk number steps step old.master new.master old.ports new.ports told turned
      × (new.events ≡ old.events ++ stamped (clock_of disk new.master) told) × (new.begun ≡ old.begun)

-- the journal has a run, with what was acknowledged after each event (own)
abbrev pub IsMarked : {D L : Type 0} → (D → Disk) → Start → RunView D L → Type 0
IsMarked disk start run = IsRunning disk start (marks_of run.begun start.number run.events) run.master

-- the claim about power stops, if it held of a run before, holds of it after (own)
pub record KeepsRun {D L : Type 0} (disk : D → Disk) (start : Start) (old new : RunView D L) : Type 0 where
  pub goes_on : IsMarked disk start old → IsMarked disk start new
