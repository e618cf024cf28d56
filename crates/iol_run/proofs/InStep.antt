-- A core stays in step with its flusher, and the run of its journal continues.
use Rattle.std.proofs.Common.{◌≡◌, refl, ◌+◌, ◌&&◌, ℕ, Bool, true, false, if◌then◌else◌, List, [], ◌∷◌, ◌++◌, length, drop, Option, Some}
use Rattle.std.proofs.Common.{None, is_none, Result, Ok, Err, ap, sym, ◌∙◌, subst, arith, rules, append_assoc, length-append}
use Rattle.std.proofs.Math.Seq.{drop-append_seam}
use Rattle.std.proofs.lemmas.List.{drop-append-le}
use Rattle.std.proofs.lemmas.List.Sums.{fold-append}
use Rattle.iol_types.specs.Command.{CommandValue}
use Rattle.iol_types.specs.State.{State, check, apply, after, legal}
use Rattle.iol_types.specs.declared.command.CommandFault.{CommandFault}
use Rattle.iol_disk.specs.Disk.{Disk}
use Rattle.iol_core.specs.Core.{CoreView, live}
use Rattle.iol_core.specs.Submit.{IsSubmit, is_stopped, queue_fault, queued, first_cause, submit_fault}
use Rattle.iol_core.specs.declared.ticket.SubmitFault.{SubmitFault}
use Rattle.iol_core.specs.declared.ticket.SubmitFault.TheVariants as fault
use Rattle.iol_flush.proofs.RunLaws.{accepts_more}
use Rattle.iol_flush.specs.Flushing.{IsFlushing}
use Rattle.iol_flush.specs.Stages.{FlusherView}
use Rattle.iol_flush.specs.declared.stage.FlushStage.{FlushStage}
use Rattle.iol_flush.specs.declared.stage.FlushStage.TheVariants.{Resting, Opening, Given, Checkpointing, Writing, Publishing, Failed}
use Rattle.iol_front.specs.Fronts.{Start, CommittedView}
use Rattle.iol_journal.specs.Body.{values}
use Rattle.iol_journal.specs.Runs.{Mark}
use Rattle.iol_run.specs.EngineOnDisk.{EngineOnDiskView}
use Rattle.iol_run.specs.CoreOnDisk.{CoreOnDiskView, IsInFlight, HasFlight, IsInStep, IsRunning, KeepsRunning, waiting_of}

-- a command that is accepted is legal in the live state
submit_causes : (stopped : Bool) (checked : Option CommandFault) (queue : Option SubmitFault)
    → (if stopped then Some fault.Stopped else first_cause checked queue) ≡ None → checked ≡ None
submit_causes true checked queue none = search rules
submit_causes false (Some f) queue none = search rules
submit_causes false None queue none = refl

pub accepted_passes : (core : CoreView) (command : CommandValue) → submit_fault core command ≡ None → check (live core) command ≡ None
accepted_passes core command none = submit_causes (is_stopped core) (check (live core) command) (queue_fault core) none

-- one more command waits: what is in flight stays in flight
pub more_waits : (core : CoreView) (command : CommandValue) (commands : List CommandValue) → IsInFlight core commands
    → IsInFlight (queued core command) commands
more_waits core command commands is = record {
  behind = is.behind ++ command ∷ [];
  queue = ap (λ (cs : List CommandValue). cs ++ command ∷ []) is.queue ∙ append_assoc commands is.behind (command ∷ []);
  flight = is.flight;
  some = is.some;
}

module _ {D : Type 0} where
  pub flight_stays : (core : CoreView) (command : CommandValue) (stage : FlushStage D) → HasFlight core stage
      → HasFlight (queued core command) stage
  flight_stays core command (Resting j) is = is
  flight_stays core command (Opening c) is = is
  flight_stays core command (Given j b) is = more_waits core command (values b.commands.items) is
  flight_stays core command (Checkpointing c b) is = more_waits core command (values b.commands.items) is
  flight_stays core command (Writing w) is = more_waits core command w.commands is
  flight_stays core command (Publishing j written) is = more_waits core command written.commands is
  flight_stays core command (Failed d f) is = is

  pub queued_in_step : (start : Start) (core : CoreView) (command : CommandValue) (flusher : FlusherView D)
      (committed : Option CommittedView)
      → IsInStep start core flusher committed → IsInStep start (queued core command) flusher committed
  queued_in_step start core command flusher None is =
      (record { number = is.0.number; state = is.0.state }, flight_stays core command flusher.stage is.1, is.2)
  queued_in_step start core command flusher (Some committed) is =
      (record { number = is.0.number; state = is.0.state }, is.1, more_waits core command committed.commands is.2, is.3)

  pub submit_in_step : (start : Start) (old new : CoreView) (command : CommandValue) (flusher : FlusherView D)
      (committed : Option CommittedView)
      (answer : Result ℕ SubmitFault) → IsSubmit old command new answer → IsInStep start old flusher committed
      → IsInStep start new flusher committed
  submit_in_step start old new command flusher committed (Ok n) is was =
      subst (λ (c : CoreView). IsInStep start c flusher committed) (sym is.2) (queued_in_step start old command flusher committed was)
  submit_in_step start old new command flusher committed (Err f) is was =
      subst (λ (c : CoreView). IsInStep start c flusher committed) (sym is.1) was

-- the queue without the batch in flight is what waits after it
pub after_flight : (core : CoreView) (commands : List CommandValue) (is : IsInFlight core commands) → drop (length commands) core.queue
    ≡ is.behind
after_flight core commands is = ap (drop (length commands)) is.queue ∙ drop-append_seam commands is.behind

-- if a batch is published and not yet acknowledged, the published list and what waits after it are the list before it and the queue
pub all_of : (core : CoreView) (published before commands : List CommandValue) → published ≡ before ++ commands
    → (is : IsInFlight core commands)
    → published ++ drop (length commands) core.queue ≡ before ++ core.queue
all_of core published before commands same is =
    ap (λ (cs : List CommandValue). cs ++ drop (length commands) core.queue) same
    ∙ (ap (λ (cs : List CommandValue). (before ++ commands) ++ cs) (after_flight core commands is)
    ∙ (append_assoc before commands is.behind ∙ ap (λ (cs : List CommandValue). before ++ cs) (sym is.queue)))

-- the live state is that after all commands that were accepted
pub live_is : {D : Type 0} (start : Start) (core : CoreView) (flusher : FlusherView D) (committed : Option CommittedView)
    → IsInStep start core flusher committed
    → after start.state (flusher.published ++ waiting_of committed core) ≡ live core
live_is start core flusher None is =
    fold-append apply start.state flusher.published core.queue ∙ ap (λ (s : State). after s core.queue) (sym is.0.state)
live_is start core flusher (Some committed) is =
    ap (after start.state) (all_of core flusher.published committed.before committed.commands is.1 is.2)
    ∙ (fold-append apply start.state committed.before core.queue ∙ ap (λ (s : State). after s core.queue) (sym is.0.state))

-- the number of accepted commands is that of the durable ones and of those that wait
pub count_is : {D : Type 0} (start : Start) (core : CoreView) (flusher : FlusherView D) (committed : Option CommittedView)
    → IsInStep start core flusher committed
    → start.number + length (flusher.published ++ waiting_of committed core) ≡ core.number + length core.queue
count_is start core flusher None is = omega (arith, length-append flusher.published core.queue, is.0.number)
count_is start core flusher (Some committed) is =
    ap (λ (cs : List CommandValue). start.number + length cs) (all_of core flusher.published committed.before committed.commands is.1 is.2)
    ∙ omega (arith, length-append committed.before core.queue, is.0.number)

-- one more command waits after the published list
pub waits_more : {D : Type 0} (start : Start) (core : CoreView) (flusher : FlusherView D) (committed : Option CommittedView)
    (command : CommandValue)
    → IsInStep start core flusher committed → waiting_of committed (queued core command) ≡ waiting_of committed core ++ command ∷ []
waits_more start core flusher None command is = refl
waits_more start core flusher (Some committed) command is =
    drop-append-le (length committed.commands) core.queue (command ∷ [])
    (omega (arith, ap length is.2.queue, length-append committed.commands is.2.behind))

module _ {D : Type 0} (disk : D → Disk) (start : Start) (marks : List Mark) where
  pub submit_running : (old new : CoreView) (command : CommandValue) (flusher : FlusherView D) (committed : Option CommittedView)
      (answer : Result ℕ SubmitFault)
      → IsSubmit old command new answer → IsInStep start old flusher committed
      → IsRunning disk start marks (record { core = old; flusher = flusher; committed = committed })
      → IsRunning disk start marks (record { core = new; flusher = flusher; committed = committed })
  submit_running old new command flusher committed (Ok n) is step was =
      subst (λ (c : CoreView). IsRunning disk start marks (record { core = c; flusher = flusher; committed = committed })) (sym is.2)
      (subst (λ (cs : List CommandValue). IsFlushing disk start.number start.state flusher.published cs marks flusher.stage)
      (sym (waits_more start old flusher committed command step))
      (accepts_more disk start.number start.state flusher.published (waiting_of committed old) marks flusher.stage (command ∷ []) passes
      was))
    where
      passes : legal (after start.state (flusher.published ++ waiting_of committed old)) (command ∷ []) ≡ true
      passes =
          ap (λ (s : State). is_none (check s command) && true) (live_is start old flusher committed step)
          ∙ ap (λ (f : Option CommandFault). is_none f && true) (accepted_passes old command is.0)
  submit_running old new command flusher committed (Err f) is step was =
      subst (λ (c : CoreView). IsRunning disk start marks (record { core = c; flusher = flusher; committed = committed })) (sym is.1) was

-- the core and the flusher of an engine on a disk are those of one that is the same
pub master_is : {D : Type 0} {one two : EngineOnDiskView D} → one ≡ two → one.master ≡ two.master
master_is {D} same = ap (λ (m : EngineOnDiskView D). m.master) same

-- the run continues as a contract sees it, if no batch is to be acknowledged
pub from_none : {D : Type 0} (disk : D → Disk) (start : Start) (seen next : CoreOnDiskView D) (core : CoreView) (flusher : FlusherView D)
    (committed : Option CommittedView)
    → record { core = core; flusher = flusher; committed = committed } ≡ seen → committed ≡ None
    → KeepsRunning disk start (record { core = core; flusher = flusher; committed = None }) next → KeepsRunning disk start seen next
from_none {D} disk start seen next core flusher committed is none keeps =
    subst (λ (m : CoreOnDiskView D). KeepsRunning disk start m next)
    (ap (λ (c : Option CommittedView). record { core = core; flusher = flusher; committed = c }) (sym none) ∙ is) keeps

pub to_none : {D : Type 0} (disk : D → Disk) (start : Start) (seen : CoreOnDiskView D) (core : CoreView) (flusher : FlusherView D)
    (committed : Option CommittedView)
    → committed ≡ None → KeepsRunning disk start seen (record { core = core; flusher = flusher; committed = None })
    → KeepsRunning disk start seen (record { core = core; flusher = flusher; committed = committed })
to_none disk start seen core flusher committed none keeps =
    subst (λ (c : Option CommittedView). KeepsRunning disk start seen (record { core = core; flusher = flusher; committed = c })) (sym none)
    keeps
