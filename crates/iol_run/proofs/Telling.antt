-- The events say what happened, and the moments of a run.
use Rattle.std.proofs.Common.{◌≡◌, refl, ◌+◌, ℕ, nat_le, Bool, true, false, List, [], ◌∷◌, ◌++◌, length, drop, Option, Some, None, Result}
use Rattle.std.proofs.Common.{Ok, Err, ap, sym, ◌∙◌, subst, arith, append-nil, append_assoc, length-append}
use Rattle.iol_types.specs.Command.{CommandValue, command_of}
use Rattle.iol_disk.specs.Disk.{Disk}
use Rattle.iol_core.specs.Core.{CoreView, live_number}
use Rattle.iol_core.specs.Submit.{IsSubmit, queued}
use Rattle.iol_core.specs.Telling.{refusal_of}
use Rattle.iol_core.specs.declared.ticket.SubmitFault.{SubmitFault}
use Rattle.iol_flush.specs.Stages.{FlusherView}
use Rattle.iol_flush.specs.declared.need.Need.{Need}
use Rattle.iol_flush.specs.declared.need.Need.TheVariants as need
use Rattle.iol_front.specs.Fronts.{Start, CommittedView}
use Rattle.iol_core.proofs.Words.{accepted-append, numbers-append, acked-append, rise-append}
use Rattle.iol_core.specs.Events.{Event, Accepted, Refused, Acknowledged, DiskFailed, Stamp, stamped}
use Rattle.iol_core.specs.Words.{accepted, numbers, acked, RiseByOne}
use Rattle.iol_run.specs.CoreOnDisk.{CoreOnDiskView, IsInFlight, IsInStep, waiting_of, accepted_in}
use Rattle.iol_engine.specs.Ports.{PortsView}
use Rattle.iol_run.specs.Ports.{StepsIf}
use Rattle.iol_run.specs.Runs.{IsTold}
use Rattle.iol_engine.specs.Submitted.{submit_told}
use Rattle.iol_run.specs.Steps.{Does}
use Rattle.iol_run.specs.Turns.{Acknowledges, Takes, HasCalled, Publishes, Serves, IsTurn, met_by}
use Rattle.iol_run.specs.declared.turn.Turned.{Turned}
use Rattle.iol_run.specs.declared.turn.Turned.TheVariants.{Made, Idle, Waited}
use Rattle.iol_run.specs.declared.step.Step.{Step}
use Rattle.iol_run.specs.declared.step.Step.TheVariants.{Client, Port, Flush}
use Rattle.iol_link.specs.Link.{LinkCall, LinkAnswer}
use Rattle.iol_run.proofs.Calls.{waits_with}
use Rattle.iol_engine.proofs.Changes.{Becomes, Change, Permits, Waits, Tells, changed}
use Rattle.iol_engine.proofs.PortCalls.{step_becomes}
use Rattle.iol_engine.proofs.Quiet.{quiet_accepted, quiet_numbers, quiet_acked, stamped_more}
use Rattle.iol_run.proofs.Batches.{published_in_step, before_is}
use Rattle.iol_run.proofs.InStep.{waits_more, count_is, all_of}

module _ {D : Type 0} (start : Start) (t : ℕ) where
  -- a command is accepted
  accepted_told : (old new : CoreOnDiskView D) (command : CommandValue) (events : List Stamp)
      → IsInStep start old.core old.flusher old.committed
      → new.core.number ≡ old.core.number → waiting_of old.committed new.core ≡ waiting_of old.committed old.core ++ command ∷ []
      → new.flusher ≡ old.flusher → new.committed ≡ old.committed → IsTold start old events
      → IsTold start new (events ++ stamped t (Accepted (live_number old.core + 1) command ∷ []))
  accepted_told old new command events step number waits flusher committed was = record {
    accepted_is =
        accepted-append events more
        ∙ (ap (λ (cs : List CommandValue). cs ++ command ∷ []) was.accepted_is
        ∙ (append_assoc old.flusher.published (waiting_of old.committed old.core) (command ∷ [])
        ∙ sym (ap (λ (f : FlusherView D). f.published ++ waiting_of new.committed new.core) flusher
        ∙ (ap (λ (c : Option CommittedView). old.flusher.published ++ waiting_of c new.core) committed
        ∙ ap (λ (cs : List CommandValue). old.flusher.published ++ cs) waits))));
    rise =
        subst (λ (ns : List ℕ). RiseByOne start.number ns) (sym (numbers-append events more))
        (rise-append start.number (numbers events) ((live_number old.core + 1) ∷ []) was.rise (omega (arith, counted), tt));
    count =
        ap length (numbers-append events more)
        ∙ (omega (
          arith,
          was.count,
          length-append (numbers events) ((live_number old.core + 1) ∷ []),
          length-append (accepted events) (command ∷ []),
        )
        ∙ ap length (sym (accepted-append events more)));
    acked_is = acked-append start.number events more ∙ (was.acked_is ∙ sym number);
  }
    where
      more : List Stamp
      more = stamped t (Accepted (live_number old.core + 1) command ∷ [])

      counted : start.number + length (numbers events) ≡ live_number old.core
      counted =
          ap (λ (n : ℕ). start.number + n) (was.count ∙ ap length was.accepted_is)
          ∙ count_is start old.core old.flusher old.committed step

  -- events that accept and acknowledge nothing say what happened, if the master has the same commands and number
  quiet_told : (old new : CoreOnDiskView D) (events : List Stamp) (more : List Stamp) → accepted more ≡ [] → numbers more ≡ []
      → acked (acked start.number events) more ≡ new.core.number → accepted_in new ≡ accepted_in old → IsTold start old events
      → IsTold start new (events ++ more)
  quiet_told old new events more none no_number ack same was = record {
    accepted_is = accepted_same ∙ (was.accepted_is ∙ sym same);
    rise = subst (λ (ns : List ℕ). RiseByOne start.number ns) (sym numbers_same) was.rise;
    count = ap length numbers_same ∙ (was.count ∙ ap length (sym accepted_same));
    acked_is = acked-append start.number events more ∙ ack;
  }
    where
      accepted_same : accepted (events ++ more) ≡ accepted events
      accepted_same = accepted-append events more
          ∙ (ap (λ (cs : List CommandValue). accepted events ++ cs) none ∙ append-nil (accepted events))

      numbers_same : numbers (events ++ more) ≡ numbers events
      numbers_same = numbers-append events more ∙ (ap (λ (ns : List ℕ). numbers events ++ ns) no_number ∙ append-nil (numbers events))

  -- nothing is reported
  silent_told : (old new : CoreOnDiskView D) (events : List Stamp) → new.core.number ≡ old.core.number → accepted_in new ≡ accepted_in old
      → IsTold start old events → IsTold start new (events ++ [])
  silent_told old new events number same was = quiet_told old new events [] refl refl (was.acked_is ∙ sym number) same was

  -- after a client's command the events say what happened
  submit_is_told : (old new : CoreOnDiskView D) (command : CommandValue) (events : List Stamp) (answer : Result ℕ SubmitFault)
      → IsInStep start old.core old.flusher old.committed → IsSubmit old.core command new.core answer → new.flusher ≡ old.flusher
      → new.committed ≡ old.committed → IsTold start old events → IsTold start new (events ++ stamped t (submit_told command answer))
  submit_is_told old new command events (Ok n) step is flusher committed was =
      subst (λ (m : ℕ). IsTold start new (events ++ stamped t (Accepted m command ∷ []))) (sym is.1)
      (accepted_told old new command events step (ap (λ (c : CoreView). c.number) is.2)
      (ap (waiting_of old.committed) is.2 ∙ waits_more start old.core old.flusher old.committed command step) flusher committed was)
  submit_is_told old new command events (Err f) step is flusher committed was =
      quiet_told old new events (stamped t (Refused (refusal_of f) ∷ [])) refl refl
      (was.acked_is ∙ ap (λ (c : CoreView). c.number) (sym is.1))
      (ap (λ (f : FlusherView D). f.published ++ waiting_of new.committed new.core) flusher
      ∙ (ap (λ (c : Option CommittedView). old.flusher.published ++ waiting_of c new.core) committed
      ∙ ap (λ (c : CoreView). old.flusher.published ++ waiting_of old.committed c) is.1))
      was

  -- the accepted commands stay if the flusher, the published batch and the waiting commands stay
  waiting_same : (old new : CoreOnDiskView D) → new.flusher ≡ old.flusher → new.committed ≡ old.committed
      → waiting_of old.committed new.core ≡ waiting_of old.committed old.core → accepted_in new ≡ accepted_in old
  waiting_same old new flusher committed waits =
      ap (λ (f : FlusherView D). f.published ++ waiting_of new.committed new.core) flusher
      ∙ (ap (λ (c : Option CommittedView). old.flusher.published ++ waiting_of c new.core) committed
      ∙ ap (λ (cs : List CommandValue). old.flusher.published ++ cs) waits)

  -- after a call of a port the events say what happened
  becomes_told : (P : Type 0) (old new : CoreOnDiskView D) (events : List Stamp) (told : List Event)
      → IsInStep start old.core old.flusher old.committed
      → Becomes P old.core new.core told → new.flusher ≡ old.flusher → new.committed ≡ old.committed → IsTold start old events
      → IsTold start new (events ++ stamped t told)
  becomes_told P old new events told step becomes flusher committed was = by_change becomes.change becomes.new_is becomes.tells
    where
      by_change : (change : Change) → new.core ≡ changed old.core change → Tells old.core change told
          → IsTold start new (events ++ stamped t told)
      by_change (Permits permits) is tells =
          quiet_told old new events (stamped t told) (quiet_accepted t told tells) (quiet_numbers t told tells)
          (quiet_acked t (acked start.number events) told tells ∙ (was.acked_is ∙ sym (ap (λ (c : CoreView). c.number) is)))
          (waiting_same old new flusher committed (ap (waiting_of old.committed) is ∙ waits_with old.committed old.core permits)) was
      by_change (Waits command permits) is tells =
          subst (λ (es : List Event). IsTold start new (events ++ stamped t es)) (sym tells)
          (accepted_told old new command events step (ap (λ (c : CoreView). c.number) is)
          (ap (waiting_of old.committed) is
          ∙ (waits_with old.committed (queued old.core command) permits
          ∙ waits_more start old.core old.flusher old.committed command step)) flusher committed was)

  -- after a step of a port, its call and then its status, the events say what happened
  port_told : {L : Type 0} (number : L → ℕ) (steps : L → LinkCall → LinkAnswer → L → Type 0) (there : Bool) (port : ℕ)
      (old new : CoreOnDiskView D)
      (ports last : PortsView L) (events : List Stamp) (told : List Event) → IsInStep start old.core old.flusher old.committed
      → StepsIf number steps there port old new ports last told → IsTold start old events → IsTold start new (events ++ stamped t told)
  port_told number steps true port old new ports last events told step is was =
      let becomes = step_becomes number steps is.before is.after is.link is.linked old.core new.core is.called is.status is.steps_as in
      let called = becomes_told ⊥ old new events is.called step becomes.0 is.flusher is.committed was in
      subst (λ (es : List Event). IsTold start new (events ++ stamped t es)) (sym is.told_is)
      (subst (λ (ss : List Stamp). IsTold start new ss) (sym (stamped_more t events is.called is.status))
      (quiet_told new new (events ++ stamped t is.called) (stamped t is.status) (quiet_accepted t is.status becomes.1)
      (quiet_numbers t is.status becomes.1)
      (quiet_acked t (acked start.number (events ++ stamped t is.called)) is.status becomes.1 ∙ called.acked_is) refl called))
  port_told number steps false port old new ports last events told step is was =
      subst (λ (es : List Event). IsTold start new (events ++ stamped t es)) (sym is.2)
      (silent_told old new events (ap (λ (m : CoreOnDiskView D). m.core.number) is.0) (ap accepted_in is.0) was)

  -- a batch is acknowledged
  acknowledged_told : (old new : CoreOnDiskView D) (committed : CommittedView) (events : List Stamp) (told : List Event) → old.committed
      ≡ Some committed
      → IsInFlight old.core committed.commands → Acknowledges old new told → IsTold start old events
      → IsTold start new (events ++ stamped t told)
  acknowledged_told old new committed events told there flight is was =
      subst (λ (es : List Event). IsTold start new (events ++ stamped t es)) (sym is.3)
      (quiet_told old new events (stamped t (Acknowledged new.core.number ∷ [])) refl refl refl
      (ap (λ (f : FlusherView D). f.published ++ waiting_of new.committed new.core) is.1
      ∙ (ap (λ (c : Option CommittedView). old.flusher.published ++ waiting_of c new.core) is.2
      ∙ (ap (λ (c : CoreView). old.flusher.published ++ c.queue) is.0
      ∙ (ap (λ (n : ℕ). old.flusher.published ++ drop n old.core.queue) flight.flight
      ∙ ap (λ (c : Option CommittedView). old.flusher.published ++ waiting_of c old.core) (sym there)))))
      was)

  -- the accepted commands stay if no batch is to be acknowledged, and the queue and the published list stay
  stays_told : (old new : CoreOnDiskView D) → old.committed ≡ None → new.committed ≡ None → new.flusher.published ≡ old.flusher.published
      → new.core.queue ≡ old.core.queue → accepted_in new ≡ accepted_in old
  stays_told old new before after published queue =
      ap (λ (c : Option CommittedView). new.flusher.published ++ waiting_of c new.core) after
      ∙ (ap (λ (cs : List CommandValue). cs ++ new.core.queue) published
      ∙ (ap (λ (cs : List CommandValue). old.flusher.published ++ cs) queue
      ∙ ap (λ (c : Option CommittedView). old.flusher.published ++ waiting_of c old.core) (sym before)))

  same_told : (old new : CoreOnDiskView D) (events : List Stamp) (told : List Event) → new ≡ old → told ≡ [] → IsTold start old events
      → IsTold start new (events ++ stamped t told)
  same_told old new events told same none was =
      subst (λ (es : List Event). IsTold start new (events ++ stamped t es)) (sym none)
      (silent_told old new events (ap (λ (m : CoreOnDiskView D). m.core.number) same) (ap accepted_in same) was)

  takes_told : (old new : CoreOnDiskView D) (events : List Stamp) (told : List Event) (turned : Turned) → old.committed ≡ None
      → Takes old new told turned
      → IsTold start old events → IsTold start new (events ++ stamped t told)
  takes_told old new events told Made none is was =
      subst (λ (es : List Event). IsTold start new (events ++ stamped t es)) (sym is.5)
      (silent_told old new events (ap (λ (c : CoreView). c.number) is.1.others)
      (stays_told old new none is.4 is.3 (ap (λ (c : CoreView). c.queue) is.1.others)) was)
  takes_told old new events told Idle none is was = same_told old new events told is.1 is.2 was
  takes_told old new events told Waited none is was = same_told old new events told is.1 is.2 was

  called_told : (disk : D → Disk) (old new : CoreOnDiskView D) (events : List Stamp) (told : List Event) → old.committed ≡ None
      → new.committed ≡ None
      → new.flusher.published ≡ old.flusher.published → HasCalled disk old new told → IsTold start old events
      → IsTold start new (events ++ stamped t told)
  called_told disk old new events [] none after published is was =
      silent_told old new events (ap (λ (c : CoreView). c.number) is.0)
      (stays_told old new none after published (ap (λ (c : CoreView). c.queue) is.0)) was
  called_told disk old new events (e ∷ told) none after published is was =
      subst (λ (es : List Event). IsTold start new (events ++ stamped t es)) (sym is.1)
      (quiet_told old new events (stamped t (DiskFailed ∷ [])) refl refl (was.acked_is ∙ sym (ap (λ (c : CoreView). c.number) is.2))
      (stays_told old new none after published (ap (λ (c : CoreView). c.queue) is.2)) was)

  publishes_told : (old new : CoreOnDiskView D) (events : List Stamp) (told : List Event) → old.committed ≡ None
      → IsInStep start old.core old.flusher None → Publishes old new told → IsTold start old events
      → IsTold start new (events ++ stamped t told)
  publishes_told old new events told none step is was =
      let committed = is.0 in
      let then_ = published_in_step start old.core old.flusher new.flusher committed is.1 step in
      subst (λ (es : List Event). IsTold start new (events ++ stamped t es)) (sym is.4)
      (silent_told old new events (ap (λ (c : CoreView). c.number) is.2)
      (ap (λ (c : Option CommittedView). new.flusher.published ++ waiting_of c new.core) is.3
      ∙ (ap (λ (c : CoreView). new.flusher.published ++ drop (length committed.commands) c.queue) is.2
      ∙ (all_of old.core new.flusher.published committed.before committed.commands then_.1 then_.2
      ∙ (ap (λ (cs : List CommandValue). cs ++ old.core.queue)
      (before_is old.flusher.stage old.flusher.published new.flusher committed is.1)
      ∙ ap (λ (c : Option CommittedView). old.flusher.published ++ waiting_of c old.core) (sym none)))))
      was)

  serves_told : (disk : D → Disk) (need : Need) (old new : CoreOnDiskView D) (events : List Stamp) (told : List Event) (turned : Turned)
      → old.committed ≡ None
      → IsInStep start old.core old.flusher None → Serves disk need old new told turned → IsTold start old events
      → IsTold start new (events ++ stamped t told)
  serves_told disk need.Batch old new events told turned none step is was = takes_told old new events told turned none is was
  serves_told disk need.Disk old new events told Made none step is was = called_told disk old new events told none is.1 is.0 is.2 was
  serves_told disk need.Disk old new events told Idle none step is was = absurd is
  serves_told disk need.BatchOrDisk old new events told turned none step is was = absurd is
  serves_told disk need.Disk old new events told Waited none step is was = same_told old new events told is.1 is.2 was
  serves_told disk need.Publish old new events told turned none step is was = publishes_told old new events told none step is.1 was
  serves_told disk need.Stopped old new events told turned none step is was = same_told old new events told is.1 is.2 was

  turn_told : (disk : D → Disk) (committed : Option CommittedView) (old new : CoreOnDiskView D) (events : List Stamp) (told : List Event)
      (turned : Turned)
      → old.committed ≡ committed → IsInStep start old.core old.flusher committed → IsTurn disk committed old new told turned
      → IsTold start old events → IsTold start new (events ++ stamped t told)
  turn_told disk (Some committed) old new events told turned there step is was =
      acknowledged_told old new committed events told there step.2 is.1 was
  turn_told disk None old new events told turned there step is was =
      serves_told disk (met_by old) old new events told turned there step is was

  -- the events of a step say what happened
  pub step_told : {L : Type 0} (disk : D → Disk) (number : L → ℕ) (steps : L → LinkCall → LinkAnswer → L → Type 0) (step : Step)
      (old new : CoreOnDiskView D) (ports last : PortsView L) (events : List Stamp) (told : List Event) (turned : Turned)
      → IsInStep start old.core old.flusher old.committed → Does disk number steps step old new ports last told turned
      → IsTold start old events
      → IsTold start new (events ++ stamped t told)
  step_told disk number steps (Client change) old new ports last events told turned step is was =
      subst (λ (es : List Event). IsTold start new (events ++ stamped t es)) (sym is.2.4)
      (submit_is_told old new (command_of change) events is.2.0 step is.2.1 is.2.2 is.2.3 was)
  step_told disk number steps (Port port) old new ports last events told turned step is was =
      port_told number steps (nat_le port (length ports.links)) port old new ports last events told step is.1 was
  step_told disk number steps Flush old new ports last events told turned step is was =
      turn_told disk old.committed old new events told turned refl step is.1 was
