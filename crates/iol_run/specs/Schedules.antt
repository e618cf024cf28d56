-- What a schedule does.
use Rattle.std.specs.Prelude.{◌≡◌, ℕ, ◌+◌, ◌*◌, IsTrue, map, replicate, List, [], ◌∷◌, length, Some, None, slice_get, Ok}
use Rattle.iol_disk.specs.Calls.{sync, Made}
use Rattle.iol_disk.specs.Content.{clock}
use Rattle.iol_disk.specs.Disk.{Disk, Shows}
use Rattle.iol_flush.specs.Stages.{disk_of}
use Rattle.iol_flush.specs.declared.stage.FlushStage.TheVariants.{Resting}
use Rattle.iol_journal.specs.Journals.{JournalView}
use Rattle.iol_journal.specs.Layout.{renewed, total}
use Rattle.iol_journal.specs.Meaning.{standing_in}
use Rattle.iol_link.specs.Link.{LinkCall, LinkAnswer}
use Rattle.iol_core.specs.Events.{Stamp}
use Rattle.iol_core.specs.Links.{IsLinkRun}
use Rattle.iol_core.specs.Words.{durable}
use Rattle.iol_engine.specs.Acknowledged.{AcksRise}
use Rattle.iol_run.specs.Answers.{AnswersClients, clients_of}
use Rattle.iol_run.specs.Clocks.{ClocksRise}
use Rattle.iol_run.specs.CoreOnDisk.{clock_of}
use Rattle.iol_run.specs.Stamps.{stamp_of}
use Rattle.iol_run.specs.Failures.{TellsFailures}
use Rattle.iol_run.specs.Flushed.{AllDrained, AllFlushed, queue_turns}
use Rattle.iol_run.specs.PortRuns.{ArePortRuns}
use Rattle.iol_engine.specs.Ports.{new_machines}
use Rattle.iol_run.specs.Runs.{RunView}
use Rattle.iol_run.specs.Stopped.{NoneOnceFailed}
use Rattle.iol_run.specs.Tasks.{HasRun, IsCountOf}
use Rattle.iol_run.specs.declared.schedule.RunFault.{RunFault}
use Rattle.iol_run.specs.declared.schedule.RunFault.TheVariants as fault
use Rattle.iol_run.specs.declared.schedule.Trace.{Trace}
use Rattle.iol_run.specs.declared.step.Step.{Step}
use Rattle.iol_run.specs.declared.task.Task.{Task}

-- a run before its first step: the journal rests as it was recovered, nothing waits, no permit is given, nothing is stopped, each
-- link has a new machine, and there are no events (own)
pub record IsFresh {D L : Type 0} (disk : D → Disk) (journal : JournalView D) (links : List L) (run : RunView D L) : Type 0 where
  pub stage : run.master.flusher.stage ≡ Resting journal
  pub published : run.master.flusher.published ≡ []
  pub committed : run.master.committed ≡ None
  pub queue : run.master.core.queue ≡ []
  pub flight : run.master.core.flight ≡ 0
  pub permits : run.master.core.permits ≡ replicate (length links) None
  pub stopped : run.master.core.stopped ≡ None
  pub number : run.master.core.number ≡ journal.standing.number
  pub state : run.master.core.durable ≡ journal.standing.state
  pub ports : run.ports ≡ record { machines = new_machines (length links); links = links }
  pub events : run.events ≡ []
  pub begun : run.begun ≡ clock_of disk run.master

module _ {L : Type 0} (number : L → ℕ) (steps : L → LinkCall → LinkAnswer → L → Type 0) where
  -- the events of each port are a run of its link, from the link at the start to the link at the end (own)
  pub record AreLinkRuns (links : List L) (events : List Stamp) (last : List L) : Type 0 where
    pub count : length last ≡ length links
    pub runs : (place : ℕ) (before after : L) → slice_get links place ≡ Some before → slice_get last place ≡ Some after
        → IsLinkRun number steps (place + 1) events before after

-- a journal was recovered from a disk: it is as an honest disk shows, its list of commands is empty, and its disk is what a sync
-- leaves of that one (own)
pub record IsRecovered {D : Type 0} (disk : D → Disk) (given : D) (journal : JournalView D) : Type 0 where
  pub found : Shows (disk given) (λ image. standing_in (disk given).sectors image ≡ Ok journal.standing)
  pub history : journal.history ≡ record { first = journal.standing.number; start = journal.standing.state; commands = [] }
  pub synced : Made (sync ∷ []) (disk given) (disk journal.disk)

-- the events of a trace, as data (own)
abbrev pub told_in : {D L : Type 0} → Trace D L → List Stamp
told_in trace = map stamp_of trace.events.items

module _ {D L : Type 0} (disk : D → Disk) (number : L → ℕ) (steps : L → LinkCall → LinkAnswer → L → Type 0) where
  -- a trace is that of a schedule, from a fresh run over a journal and these links: its first tasks, all of them unless memory
  -- ran out, made these steps. The trace has their events, and the state, the links and the disk that they left (own)
  pub record IsRunFrom (journal : JournalView D) (links : List L) (tasks : List Task) (made : List Step) (trace : Trace D L) : Type 0 where
    pub old : RunView D L
    pub new : RunView D L
    pub waits : ℕ
    pub fresh : IsFresh disk journal links old
    pub run : HasRun disk number steps tasks trace.ended made waits old new
    pub count : IsCountOf trace.waits waits
    pub told : told_in trace ≡ new.events
    pub begun : trace.begun ≡ old.begun
    pub state : trace.state ≡ new.master.core.durable
    pub links_are : trace.links.items ≡ new.ports.links
    pub disk_is : trace.disk ≡ disk_of new.master.flusher.stage

  -- what a run over a journal reports. The events of links and ports are what these did, each client was answered as the events
  -- before say, and acknowledged numbers do not fall; the state is that after the acknowledged commands. Once a failure of the disk
  -- is reported nothing is accepted; the clocks of an honest disk do not fall (own)
  pub record TellsRun (journal : JournalView D) (links : List L) (made : List Step) (trace : Trace D L) : Type 0 where
    pub state : trace.state ≡ durable journal.standing.number journal.standing.state (told_in trace)
    pub clients : AnswersClients journal.standing.number journal.standing.state [] (clients_of made) (told_in trace)
    pub ports : ArePortRuns number steps journal.standing.number journal.standing.state made links (told_in trace) trace.links.items
    pub links_made : AreLinkRuns number steps links (told_in trace) trace.links.items
    pub acknowledged : AcksRise journal.standing.number (told_in trace)
    pub stopped : NoneOnceFailed (told_in trace)
    pub clocks : IsTrue (disk trace.disk).honest → ClocksRise trace.begun (clock (disk trace.disk).content) (told_in trace)
    pub flushed : AllFlushed (queue_turns (renewed journal.standing.layout)) made journal.standing.number trace.waits (told_in trace)

  -- a schedule made some steps, and the trace reports them (own)
  abbrev pub RunsAndTells : JournalView D → List L → List Task → Trace D L → Type 0
  RunsAndTells journal links tasks trace =
      (made : List Step) × IsRunFrom journal links tasks made trace × TellsRun journal links made trace

  -- a trace is that of a schedule over a disk, with these links: a journal was recovered from the disk, and the schedule run over it.
  -- A failure of the disk is reported exactly if the given disk has counted one since, unless its counter was at its greatest
  -- number. If the schedule ends in a drain, or its steps in 128 turns of the flusher for each sector of the geometry that an honest
  -- disk shows, all that was accepted is acknowledged (own)
  pub record IsTraceOf (given : D) (links : List L) (tasks : List Task) (trace : Trace D L) : Type 0 where
    pub journal : JournalView D
    pub made : List Step
    pub recovered : IsRecovered disk given journal
    pub run : IsRunFrom journal links tasks made trace
    pub tells : TellsRun journal links made trace
    pub failures : TellsFailures (disk given) (disk trace.disk) (told_in trace)
    pub drained : AllDrained tasks trace.ended journal.standing.number (told_in trace)
    pub flushed : IsTrue (disk given).honest
        → AllFlushed (128 * total journal.standing.layout) made journal.standing.number trace.waits (told_in trace)

-- the disk that is returned if a schedule was not run (own)
abbrev pub fault_disk : {D : Type 0} → RunFault D → D
fault_disk (fault.Recover why) = why.disk
fault_disk (fault.Ports disk) = disk
fault_disk (fault.Memory disk) = disk
