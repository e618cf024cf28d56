-- A core stays in step with its flusher in each call of a port and at the end of its machine, and the run of its journal
-- continues.
use Rattle.std.proofs.Common.{◌≡◌, refl, ◌&&◌, true, List, [], ◌∷◌, Option, Some, None, is_none, ap, sym, ◌∙◌, subst}
use Rattle.std.proofs.lemmas.Bool.{and_parts}
use Rattle.iol_types.specs.Command.{CommandValue}
use Rattle.iol_types.proofs.StateLemmas.{legal-append}
use Rattle.iol_types.specs.State.{State, check, legal}
use Rattle.iol_types.specs.declared.command.CommandFault.{CommandFault}
use Rattle.iol_disk.specs.Disk.{Disk}
use Rattle.iol_core.specs.Core.{CoreView, live}
use Rattle.iol_core.specs.Submit.{queued}
use Rattle.iol_core.specs.declared.permit.Grant.{Grant}
use Rattle.iol_flush.proofs.RunLaws.{accepts_more}
use Rattle.iol_flush.specs.Flushing.{IsFlushing}
use Rattle.iol_flush.specs.Stages.{FlusherView}
use Rattle.iol_flush.specs.declared.stage.FlushStage.{FlushStage}
use Rattle.iol_flush.specs.declared.stage.FlushStage.TheVariants.{Resting, Opening, Given, Checkpointing, Writing, Publishing, Failed}
use Rattle.iol_front.specs.Fronts.{Start, CommittedView}
use Rattle.iol_journal.specs.Body.{values}
use Rattle.iol_port.specs.Calls.{Call, Replies, Passes}
use Rattle.iol_port.specs.declared.call.Reply.{Reply}
use Rattle.iol_core.specs.Events.{Event}
use Rattle.iol_engine.proofs.Changes.{Becomes, Change, Permits, Waits, changed, IsPassing, replied, with_permits}
use Rattle.iol_run.proofs.InStep.{queued_in_step, waits_more, live_is}
use Rattle.iol_run.specs.CoreOnDisk.{IsInFlight, HasFlight, IsInStep, KeepsRunning, waiting_of}

pub in_flight_with : (core : CoreView) (permits : List (Option Grant)) (commands : List CommandValue) → IsInFlight core commands
    → IsInFlight (with_permits core permits) commands
in_flight_with core permits commands is = record { behind = is.behind; queue = is.queue; flight = is.flight; some = is.some }

pub waits_with : (committed : Option CommittedView) (core : CoreView) (permits : List (Option Grant))
    → waiting_of committed (with_permits core permits) ≡ waiting_of committed core
waits_with None core permits = refl
waits_with (Some committed) core permits = refl

-- the last waiting command is legal, if all waiting commands are
none_is : (fault : Option CommandFault) → is_none fault && true ≡ true → fault ≡ None
none_is None is = refl
none_is (Some fault) is = absurd cc

passes_in : (old new : CoreView) (change : Change) → new ≡ changed old change → legal new.durable new.queue ≡ true → IsPassing old change
passes_in old new (Permits permits) is passes = tt
passes_in old new (Waits command permits) is passes =
    none_is (check (live old) command)
    (and_parts (legal old.durable old.queue) (legal (live old) (command ∷ []))
    (sym (legal-append old.durable old.queue (command ∷ [])) ∙ subst (λ (c : CoreView). legal c.durable c.queue ≡ true) is passes)).1

module _ {D : Type 0} where
  -- other permits leave what is in flight
  pub flight_with : (core : CoreView) (permits : List (Option Grant)) (stage : FlushStage D) → HasFlight core stage
      → HasFlight (with_permits core permits) stage
  flight_with core permits (Resting j) is = is
  flight_with core permits (Opening c) is = is
  flight_with core permits (Given j b) is = in_flight_with core permits (values b.commands.items) is
  flight_with core permits (Checkpointing c b) is = in_flight_with core permits (values b.commands.items) is
  flight_with core permits (Writing w) is = in_flight_with core permits w.commands is
  flight_with core permits (Publishing j written) is = in_flight_with core permits written.commands is
  flight_with core permits (Failed d f) is = is

  permits_in_step : (start : Start) (core : CoreView) (permits : List (Option Grant)) (flusher : FlusherView D)
      (committed : Option CommittedView)
      → IsInStep start core flusher committed → IsInStep start (with_permits core permits) flusher committed
  permits_in_step start core permits flusher None is =
      (record { number = is.0.number; state = is.0.state }, flight_with core permits flusher.stage is.1, is.2)
  permits_in_step start core permits flusher (Some committed) is =
      (record { number = is.0.number; state = is.0.state }, is.1, in_flight_with core permits committed.commands is.2, is.3)

  change_in_step : (start : Start) (old : CoreView) (change : Change) (flusher : FlusherView D) (committed : Option CommittedView)
      → IsInStep start old flusher committed → IsInStep start (changed old change) flusher committed
  change_in_step start old (Permits permits) flusher committed was = permits_in_step start old permits flusher committed was
  change_in_step start old (Waits command permits) flusher committed was =
      permits_in_step start (queued old command) permits flusher committed (queued_in_step start old command flusher committed was)

  pub changed_in_step : (start : Start) (old new : CoreView) (change : Change) (flusher : FlusherView D) (committed : Option CommittedView)
      → new ≡ changed old change → IsInStep start old flusher committed → IsInStep start new flusher committed
  changed_in_step start old new change flusher committed is was =
      subst (λ (c : CoreView). IsInStep start c flusher committed) (sym is) (change_in_step start old change flusher committed was)

  -- a call of a port leaves the core in step
  pub call_in_step : (start : Start) (call : Call) (old new : CoreView) (heard : Reply) (flusher : FlusherView D)
      (committed : Option CommittedView)
      → Replies call old new heard → IsInStep start old flusher committed → IsInStep start new flusher committed
  call_in_step start call old new heard flusher committed is was =
      let becomes = replied 0 call old new heard is in
      changed_in_step start old new becomes.change flusher committed becomes.new_is was

  pub changed_running : (disk : D → Disk) (start : Start) (old new : CoreView) (change : Change) (flusher : FlusherView D)
      (committed : Option CommittedView)
      → new ≡ changed old change → IsPassing old change → IsInStep start old flusher committed
      → KeepsRunning disk start (record { core = old; flusher = flusher; committed = committed })
      (record { core = new; flusher = flusher; committed = committed })
  changed_running disk start old new (Permits permits) flusher committed is passes step = record {
    goes_on = λ marks was.
        subst (λ (cs : List CommandValue). IsFlushing disk start.number start.state flusher.published cs marks flusher.stage)
        (sym (ap (waiting_of committed) is ∙ waits_with committed old permits)) was;
  }
  changed_running disk start old new (Waits command permits) flusher committed is passes step = record {
    goes_on = λ marks was.
        subst (λ (cs : List CommandValue). IsFlushing disk start.number start.state flusher.published cs marks flusher.stage)
        (sym (ap (waiting_of committed) is
        ∙ (waits_with committed (queued old command) permits ∙ waits_more start old flusher committed command step)))
        (accepts_more disk start.number start.state flusher.published (waiting_of committed old) marks flusher.stage (command ∷ [])
        (ap (λ (s : State). is_none (check s command) && true) (live_is start old flusher committed step)
        ∙ ap (λ (f : Option CommandFault). is_none f && true) passes)
        was);
  }

  -- a call of a port continues the run of the journal
  pub call_running : (disk : D → Disk) (start : Start) (call : Call) (old new : CoreView) (heard : Reply) (flusher : FlusherView D)
      (committed : Option CommittedView)
      → Replies call old new heard → Passes call old heard → IsInStep start old flusher committed
      → KeepsRunning disk start (record { core = old; flusher = flusher; committed = committed })
      (record { core = new; flusher = flusher; committed = committed })
  call_running disk start call old new heard flusher committed is passes step =
      let becomes = replied 0 call old new heard is in
      changed_running disk start old new becomes.change flusher committed becomes.new_is (becomes.passing passes) step

  -- a step of a port continues the run of the journal, if all waiting commands are legal after it
  pub stepped_running : (disk : D → Disk) (start : Start) (old new : CoreView) (told : List Event) (flusher : FlusherView D)
      (committed : Option CommittedView)
      → Becomes ⊥ old new told → legal new.durable new.queue ≡ true → IsInStep start old flusher committed
      → KeepsRunning disk start (record { core = old; flusher = flusher; committed = committed })
      (record { core = new; flusher = flusher; committed = committed })
  stepped_running disk start old new told flusher committed becomes passes step =
      changed_running disk start old new becomes.change flusher committed becomes.new_is
      (passes_in old new becomes.change becomes.new_is passes) step

  pub stepped_in_step : (start : Start) (old new : CoreView) (told : List Event) (flusher : FlusherView D)
      (committed : Option CommittedView) → Becomes ⊥ old new told → IsInStep start old flusher committed
      → IsInStep start new flusher committed
  stepped_in_step start old new told flusher committed becomes step =
      changed_in_step start old new becomes.change flusher committed becomes.new_is step
