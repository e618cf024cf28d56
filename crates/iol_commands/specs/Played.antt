-- A script that was run: its run, and what was recovered from the run's disk.
use Rattle.std.specs.Prelude.{◌≡◌, ◌≤◌, ℕ, pos, List, length, take, Option, Some, None, Ok, IsSomeAnd}
use Rattle.iol_types.specs.State.{State, after, empty_state}
use Rattle.iol_disk.specs.Content.{IsImage, reads}
use Rattle.iol_disk.specs.Disk.{Disk}
use Rattle.iol_disk.specs.FaultDisk.{failing_disk, inner, kind_of, due_of}
use Rattle.iol_disk.specs.Memory as memory
use Rattle.iol_disk.specs.Stops.{IsAfterStop}
use Rattle.iol_disk.specs.declared.fault_disk.FaultDisk.{FaultDisk}
use Rattle.iol_disk.specs.declared.memory.MemoryDisk.{MemoryDisk}
use Rattle.iol_disk.specs.declared.pick.Pick.{Pick}
use Rattle.iol_headline.specs.Headline.{IsHeadline}
use Rattle.iol_journal.specs.Formatting.{EachIsEmptyJournal}
use Rattle.iol_journal.specs.Geometry.{Geometry, IsGeometry}
use Rattle.iol_journal.specs.Meaning.{meaning}
use Rattle.iol_run.specs.Schedules.{told_in}
use Rattle.iol_run.specs.declared.schedule.Ended.TheVariants.{Whole}
use Rattle.iol_run.specs.declared.schedule.Trace.{Trace}
use Rattle.iol_script.specs.Script.{Said, said_in}
use Rattle.iol_script.specs.declared.fail.FailingCall.{FailingCall}
use Rattle.iol_sim.specs.SimLink.{Sim, SimStep}
use Rattle.iol_core.specs.Events.{Stamp}
use Rattle.iol_core.specs.Words.{accepted, acked}
use Rattle.iol_commands.specs.Devices.{links_of}
use Rattle.iol_commands.specs.Lines.{events_of, report_text}
use Rattle.iol_commands.specs.Steps.{tasks_of}
use Rattle.iol_commands.specs.Stop.{due_at}
use Rattle.iol_commands.specs.declared.run.Report.{Report}

-- the disk of a run, as contracts see it: in memory, and one call of it may fail (own)
abbrev pub run_disk : FaultDisk MemoryDisk → Disk
run_disk disk = failing_disk memory.memory_disk disk

-- a geometry has the numbers that a script says (format, Scripts)
pub record IsSaidGeometry (said : Said) (geometry : Geometry) : Type 0 where
  pub ports : said.ports ≡ pos geometry.ports
  pub slots : said.slots ≡ pos geometry.slots
  pub sound : IsGeometry geometry

-- the disk call that a script names fails, and no other (format, Scripts)
abbrev pub FailsAsSaid : Option FailingCall → FaultDisk MemoryDisk → Type 0
FailsAsSaid None disk = due_of disk ≡ due_at None
FailsAsSaid (Some call) disk = (kind_of disk ≡ call.kind) × (due_of disk ≡ due_at (Some call))

-- the run of a script: all of its tasks, over an empty journal of its ports and slots, with its devices at the ports (format, Scripts)
pub record IsRunOf {D : Type 0} (disk : D → Disk) (said : Said) (geometry : Geometry) (given : D) (trace : Trace D Sim) : Type 0 where
  pub empty : EachIsEmptyJournal (disk given) geometry
  pub headline : IsHeadline disk (λ (link : Sim). link.connection) SimStep given (links_of geometry.ports said.devices)
      (tasks_of said.steps) trace
  pub whole : trace.ended ≡ Whole

-- the power was stopped as a script says: what it left is an image of the disk, and means this number and state (format, Scripts)
pub record IsStoppedAs (keep : Pick) (last : MemoryDisk) (number : ℕ) (state : State) : Type 0 where
  pub stopped : MemoryDisk
  pub power : IsAfterStop keep (memory.memory_disk last) (memory.memory_disk stopped)
  pub left : IsImage (memory.memory_disk last).content (reads (memory.memory_disk stopped).content)
  pub means : meaning (memory.memory_disk stopped).sectors (reads (memory.memory_disk stopped).content)
      ≡ Ok (record { number = number; state = state })

-- a state is the one after the first `number` accepted commands, from an empty state on, and these include all acknowledged ones
-- (own)
pub record HoldsAcknowledged (ports : ℕ) (events : List Stamp) (number : ℕ) (state : State) : Type 0 where
  pub within : number ≤ length (accepted events)
  pub reaches : acked 0 events ≤ number
  pub state_is : state ≡ after (empty_state ports) (take number (accepted events))

-- a script was run: its run was made with its disk call failing, its power was stopped, and what was recovered holds all that was
-- acknowledged (own)
pub record IsPlayed (said : Said) (report : Report) : Type 0 where
  pub geometry : Geometry
  pub given : FaultDisk MemoryDisk
  pub trace : Trace (FaultDisk MemoryDisk) Sim
  pub numbers : IsSaidGeometry said geometry
  pub fails : FailsAsSaid said.fail given
  pub run : IsRunOf run_disk said geometry given trace
  pub events : report.events ≡ trace.events
  pub stopped : IsStoppedAs said.keep (inner trace.disk) report.recovered.number report.recovered.state
  pub holds : HoldsAcknowledged geometry.ports (told_in trace) report.recovered.number report.recovered.state

-- the text that is printed for a run (format, Texts)
abbrev pub played_text : Report → List ℕ
played_text report = report_text (events_of report.events.items) report.recovered.number report.recovered.state

-- a text is that of a script's run: the events of the run, that the power stopped, and the state that was recovered
-- (format, Texts)
pub record TellsRun (script text : List ℕ) : Type 0 where
  pub report : Report
  pub played : IsSomeAnd (said_in script) (λ said. IsPlayed said report)
  pub text_is : text ≡ played_text report
