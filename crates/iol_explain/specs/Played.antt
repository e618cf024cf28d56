-- A script that was played, and whose run is explained.
use Rattle.std.specs.Prelude.{◌≡◌, ℕ, [], List, true, IsSomeAnd}
use Rattle.iol_disk.specs.Disk.{Disk}
use Rattle.iol_disk.specs.FaultDisk.{inner}
use Rattle.iol_disk.specs.declared.fault_disk.FaultDisk.{FaultDisk}
use Rattle.iol_disk.specs.declared.memory.MemoryDisk.{MemoryDisk}
use Rattle.iol_run.specs.Schedules.{told_in}
use Rattle.iol_run.specs.declared.schedule.Trace.{Trace}
use Rattle.iol_script.specs.Script.{Said, said_in}
use Rattle.iol_sim.specs.SimLink.{Sim}
use Rattle.iol_commands.specs.Played.{FailsAsSaid, HoldsAcknowledged, IsRunOf, IsSaidGeometry, IsStoppedAs, run_disk}
use Rattle.iol_explain.specs.Explained.{explained_text}
use Rattle.iol_explain.specs.ToldDisk.{calls_of, is_whole, told_on}
use Rattle.iol_explain.specs.declared.explained.Explained.{Explained}
use Rattle.iol_explain.specs.declared.told_disk.ToldDisk.{ToldDisk}

-- the disk of a run that reports its calls, as contracts see it (own)
abbrev pub told_disk : ToldDisk (FaultDisk MemoryDisk) → Disk
told_disk disk = run_disk (told_on disk)

-- a script was run on a disk that fails as the script says, and that reported each call of the run and none before it; the power was
-- stopped, and what was recovered holds all that was acknowledged (own)
pub record IsExplained (said : Said) (explained : Explained) : Type 0 where
  pub given : ToldDisk (FaultDisk MemoryDisk)
  pub trace : Trace (ToldDisk (FaultDisk MemoryDisk)) Sim
  pub numbers : IsSaidGeometry said explained.geometry
  pub fails : FailsAsSaid said.fail (told_on given)
  pub untold : calls_of given ≡ []
  pub run : IsRunOf told_disk said explained.geometry given trace
  pub events : explained.events ≡ trace.events
  pub events_before : explained.events_before ≡ trace.calls
  pub calls : explained.calls.items ≡ calls_of trace.disk
  pub whole : is_whole trace.disk ≡ true
  pub stopped : IsStoppedAs said.keep (inner (told_on trace.disk)) explained.recovered.number explained.recovered.state
  pub holds : HoldsAcknowledged explained.geometry.ports (told_in trace) explained.recovered.number explained.recovered.state

-- a text explains a script's run: the lines of a run that was played, with their words, and those of its disk calls (format,
-- Explained runs)
pub record ExplainsRun (script text : List ℕ) : Type 0 where
  pub explained : Explained
  pub played : IsSomeAnd (said_in script) (λ said. IsExplained said explained)
  pub text_is : text ≡ explained_text explained.geometry explained.calls.items explained.events_before.items explained.events.items
      explained.recovered.number explained.recovered.state
