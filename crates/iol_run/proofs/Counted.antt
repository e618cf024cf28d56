-- What the events of a run count: the accepted and the acknowledged commands, and whether a failure of the disk was reported.
use Rattle.std.proofs.Common.{◌≡◌, ◌≤◌, refl, ◌+◌, inl, inr, ℕ, nat_le, Bool, true, false, List, [], ◌∷◌, ◌++◌, length, Option, Some, None}
use Rattle.std.proofs.Common.{Result, Ok, Err, ap, sym, ◌∙◌, subst, arith, length-append, length-drop}
use Rattle.iol_types.specs.Command.{CommandValue, command_of}
use Rattle.iol_disk.specs.Disk.{Disk}
use Rattle.iol_core.specs.Core.{CoreView, live_number}
use Rattle.iol_core.specs.Submit.{IsSubmit, writes_no_more}
use Rattle.iol_core.specs.Telling.{refusal_of}
use Rattle.iol_core.specs.declared.ticket.SubmitFault.{SubmitFault}
use Rattle.iol_flush.specs.declared.need.Need.{Need}
use Rattle.iol_flush.specs.declared.need.Need.TheVariants as need
use Rattle.iol_front.specs.Fronts.{CommittedView}
use Rattle.iol_journal.specs.Layout.{Layout}
use Rattle.iol_core.proofs.Words.{accepted-append, acked-append}
use Rattle.iol_core.specs.Events.{Event, Accepted, Refused, Acknowledged, DiskFailed, Stamp, stamped}
use Rattle.iol_core.specs.Words.{accepted, acked, HasFailure}
use Rattle.iol_link.specs.Link.{LinkCall, LinkAnswer}
use Rattle.iol_engine.proofs.Changes.{Becomes, Change, Permits, Waits, Tells, changed}
use Rattle.iol_engine.proofs.PortCalls.{step_becomes}
use Rattle.iol_engine.proofs.Quiet.{AreQuiet, quiet_accepted, quiet_acked, stamped_more}
use Rattle.iol_run.proofs.Served.{IsServed, Served}
use Rattle.iol_run.proofs.TurnsLeft.{flies_within}
use Rattle.iol_run.specs.CoreOnDisk.{CoreOnDiskView}
use Rattle.iol_engine.specs.Ports.{PortsView}
use Rattle.iol_run.specs.Ports.{StepsIf}
use Rattle.iol_engine.specs.Submitted.{submit_told}
use Rattle.iol_run.specs.Steps.{Does}
use Rattle.iol_run.specs.Turns.{Acknowledges, Takes, HasCalled, Serves, IsTurn, met_by}
use Rattle.iol_run.specs.declared.turn.Turned.{Turned}
use Rattle.iol_run.specs.declared.turn.Turned.TheVariants.{Made, Idle, Waited}
use Rattle.iol_run.specs.declared.step.Step.{Step}
use Rattle.iol_run.specs.declared.step.Step.TheVariants.{Client, Port, Flush}

-- the number of accepted commands is that of those that are durable or wait, and the acknowledged number is the durable one; a core
-- that knows a failure of the disk has reported it
pub record IsCounted (first : ℕ) (core : CoreView) (events : List Stamp) : Type 0 where
  pub count : first + length (accepted events) ≡ core.number + length core.queue
  pub acked_is : acked first events ≡ core.number
  pub failure : writes_no_more core.stopped ≡ true → HasFailure events

-- a failure that was reported stays reported
pub failure_stays : (events more : List Stamp) → HasFailure events → HasFailure (events ++ more)
failure_stays [] more failed = absurd failed
failure_stays (e ∷ events) more (inl here) = inl here
failure_stays (e ∷ events) more (inr there) = inr (failure_stays events more there)

pub failure_told : (events more : List Stamp) → HasFailure more → HasFailure (events ++ more)
failure_told [] more failed = failed
failure_told (e ∷ events) more failed = inr (failure_told events more failed)

-- a core with the same number, the same number of waiting commands and the same cause to stop
record IsAlike (old new : CoreView) : Type 0 where
  number : new.number ≡ old.number
  waits : length new.queue ≡ length old.queue
  stopped : new.stopped ≡ old.stopped

alike_same : (old new : CoreView) → new ≡ old → IsAlike old new
alike_same old new same = record {
  number = ap (λ (c : CoreView). c.number) same;
  waits = ap (λ (c : CoreView). length c.queue) same;
  stopped = ap (λ (c : CoreView). c.stopped) same;
}

module _ (first t : ℕ) where
  -- more events keep the counts, if the numbers of accepted and acknowledged commands after them are those of the core
  more_counted : (old new : CoreView) (events more : List Stamp)
      → length (accepted more) + (old.number + length old.queue) ≡ new.number + length new.queue → acked old.number more ≡ new.number
      → (writes_no_more new.stopped ≡ true → HasFailure (events ++ more)) → IsCounted first old events
      → IsCounted first new (events ++ more)
  more_counted old new events more count acknowledged failed was = record {
    count =
        ap (λ (cs : List CommandValue). first + length cs) (accepted-append events more)
        ∙ omega (arith, length-append (accepted events) (accepted more), was.count, count);
    acked_is = acked-append first events more ∙ (ap (λ (n : ℕ). acked n more) was.acked_is ∙ acknowledged);
    failure = failed;
  }

  -- a failure that the core knows stays reported, if its cause to stop stays
  stays_told : (old new : CoreView) (events more : List Stamp) → new.stopped ≡ old.stopped → IsCounted first old events
      → writes_no_more new.stopped ≡ true → HasFailure (events ++ more)
  stays_told old new events more same was failed = failure_stays events more (was.failure (ap writes_no_more (sym same) ∙ failed))

  silent_counted : (old new : CoreView) (events : List Stamp) (told : List Event) → told ≡ [] → IsAlike old new → IsCounted first old events
      → IsCounted first new (events ++ stamped t told)
  silent_counted old new events told none same was =
      subst (λ (es : List Event). IsCounted first new (events ++ stamped t es)) (sym none)
      (more_counted old new events [] (omega (arith, same.number, same.waits)) (sym same.number)
      (stays_told old new events [] same.stopped was) was)

  -- events that accept and acknowledge nothing keep the counts
  quiet_counted : (old new : CoreView) (events : List Stamp) (told : List Event) → AreQuiet told → IsAlike old new
      → IsCounted first old events
      → IsCounted first new (events ++ stamped t told)
  quiet_counted old new events told quiet same was =
      more_counted old new events (stamped t told) (omega (arith, ap length (quiet_accepted t told quiet), same.number, same.waits))
      (quiet_acked t old.number told quiet ∙ sym same.number) (stays_told old new events (stamped t told) same.stopped was) was

  -- a call of a port keeps the counts
  becomes_counted : (P : Type 0) (old new : CoreView) (events : List Stamp) (told : List Event) → Becomes P old new told
      → IsCounted first old events
      → IsCounted first new (events ++ stamped t told)
  becomes_counted P old new events told becomes was = by_change becomes.change becomes.new_is becomes.tells
    where
      by_change : (change : Change) → new ≡ changed old change → Tells old change told → IsCounted first new (events ++ stamped t told)
      by_change (Permits permits) is tells = quiet_counted old new events told tells (record {
        number = ap (λ (c : CoreView). c.number) is;
        waits = ap (λ (c : CoreView). length c.queue) is;
        stopped = ap (λ (c : CoreView). c.stopped) is;
      }) was
      by_change (Waits command permits) is tells =
          subst (λ (es : List Event). IsCounted first new (events ++ stamped t es)) (sym tells)
          (more_counted old new events (stamped t (Accepted (live_number old + 1) command ∷ []))
          (omega (
            arith,
            ap (λ (c : CoreView). c.number) is,
            ap (λ (c : CoreView). length c.queue) is,
            length-append old.queue (command ∷ []),
          ))
          (sym (ap (λ (c : CoreView). c.number) is))
          (stays_told old new events (stamped t (Accepted (live_number old + 1) command ∷ [])) (ap (λ (c : CoreView). c.stopped) is) was)
          was)

  submit_counted : (old new : CoreView) (command : CommandValue) (events : List Stamp) (answer : Result ℕ SubmitFault)
      → IsSubmit old command new answer
      → IsCounted first old events → IsCounted first new (events ++ stamped t (submit_told command answer))
  submit_counted old new command events (Ok n) is was =
      more_counted old new events (stamped t (Accepted n command ∷ []))
      (omega (
        arith,
        ap (λ (c : CoreView). c.number) is.2,
        ap (λ (c : CoreView). length c.queue) is.2,
        length-append old.queue (command ∷ []),
      ))
      (sym (ap (λ (c : CoreView). c.number) is.2))
      (stays_told old new events (stamped t (Accepted n command ∷ [])) (ap (λ (c : CoreView). c.stopped) is.2) was) was
  submit_counted old new command events (Err f) is was =
      more_counted old new events (stamped t (Refused (refusal_of f) ∷ []))
      (omega (arith, ap (λ (c : CoreView). c.number) is.1, ap (λ (c : CoreView). length c.queue) is.1))
      (sym (ap (λ (c : CoreView). c.number) is.1))
      (stays_told old new events (stamped t (Refused (refusal_of f) ∷ [])) (ap (λ (c : CoreView). c.stopped) is.1) was) was

  module _ {D : Type 0} (layout : Layout) where
    acknowledged_counted : (old new : CoreOnDiskView D) (committed : CommittedView) (events : List Stamp) (told : List Event)
        → Acknowledges old new told
        → IsServed layout old.core old.flusher.stage (Some committed) → IsCounted first old.core events
        → IsCounted first new.core (events ++ stamped t told)
    acknowledged_counted old new committed events told is served was =
        subst (λ (es : List Event). IsCounted first new.core (events ++ stamped t es)) (sym is.3)
        (more_counted old.core new.core events (stamped t (Acknowledged new.core.number ∷ []))
        (omega (
          arith,
          ap (λ (c : CoreView). c.number) is.0,
          ap (λ (c : CoreView). length c.queue) is.0,
          length-drop old.core.flight old.core.queue,
          within.1,
        ))
        refl (stays_told old.core new.core events (stamped t (Acknowledged new.core.number ∷ [])) (ap (λ (c : CoreView). c.stopped) is.0)
        was) was)
      where
        within : (1 ≤ old.core.flight) × (old.core.flight ≤ length old.core.queue)
        within = flies_within old.core committed.commands served.batch.0

    same_counted : (old new : CoreOnDiskView D) (events : List Stamp) (told : List Event) → new ≡ old → told ≡ []
        → IsCounted first old.core events
        → IsCounted first new.core (events ++ stamped t told)
    same_counted old new events told same none was =
        silent_counted old.core new.core events told none (alike_same old.core new.core (ap (λ (m : CoreOnDiskView D). m.core) same)) was

    takes_counted : (old new : CoreOnDiskView D) (events : List Stamp) (told : List Event) (turned : Turned) → Takes old new told turned
        → IsCounted first old.core events → IsCounted first new.core (events ++ stamped t told)
    takes_counted old new events told Made is was =
        silent_counted old.core new.core events told is.5 (record {
          number = ap (λ (c : CoreView). c.number) is.1.others;
          waits = ap (λ (c : CoreView). length c.queue) is.1.others;
          stopped = ap (λ (c : CoreView). c.stopped) is.1.others;
        }) was
    takes_counted old new events told Idle is was = same_counted old new events told is.1 is.2 was
    takes_counted old new events told Waited is was = same_counted old new events told is.1 is.2 was

    module _ (disk : D → Disk) where
      called_counted : (old new : CoreOnDiskView D) (events : List Stamp) (told : List Event) → HasCalled disk old new told
          → IsCounted first old.core events → IsCounted first new.core (events ++ stamped t told)
      called_counted old new events [] is was = silent_counted old.core new.core events [] refl (alike_same old.core new.core is.0) was
      called_counted old new events (e ∷ told) is was =
          subst (λ (es : List Event). IsCounted first new.core (events ++ stamped t es)) (sym is.1)
          (more_counted old.core new.core events (stamped t (DiskFailed ∷ []))
          (omega (arith, ap (λ (c : CoreView). c.number) is.2, ap (λ (c : CoreView). length c.queue) is.2))
          (sym (ap (λ (c : CoreView). c.number) is.2)) (λ _. failure_told events (stamped t (DiskFailed ∷ [])) (inl tt)) was)

      serves_counted : (need : Need) (old new : CoreOnDiskView D) (events : List Stamp) (told : List Event) (turned : Turned)
          → Serves disk need old new told turned → IsCounted first old.core events → IsCounted first new.core (events ++ stamped t told)
      serves_counted need.Batch old new events told turned is was = takes_counted old new events told turned is was
      serves_counted need.Disk old new events told Made is was = called_counted old new events told is.2 was
      serves_counted need.Disk old new events told Idle is was = absurd is
      serves_counted need.BatchOrDisk old new events told turned is was = absurd is
      serves_counted need.Disk old new events told Waited is was = same_counted old new events told is.1 is.2 was
      serves_counted need.Publish old new events told turned is was =
          silent_counted old.core new.core events told is.1.4 (alike_same old.core new.core is.1.2) was
      serves_counted need.Stopped old new events told turned is was = same_counted old new events told is.1 is.2 was

      turn_counted : (committed : Option CommittedView) (old new : CoreOnDiskView D) (events : List Stamp) (told : List Event)
          (turned : Turned)
          → old.committed ≡ committed → IsTurn disk committed old new told turned → Served layout old → IsCounted first old.core events
          → IsCounted first new.core (events ++ stamped t told)
      turn_counted (Some committed) old new events told turned there is served was =
          acknowledged_counted old new committed events told is.1
          (subst (λ (c : Option CommittedView). IsServed layout old.core old.flusher.stage c) there served) was
      turn_counted None old new events told turned there is served was =
          serves_counted (met_by old) old new events told turned is was

      -- a step of a port, its call and then its status, keeps the counts
      port_counted : {L : Type 0} (number : L → ℕ) (steps : L → LinkCall → LinkAnswer → L → Type 0) (there : Bool) (port : ℕ)
          (old new : CoreOnDiskView D)
          (ports last : PortsView L) (events : List Stamp) (told : List Event) → StepsIf number steps there port old new ports last told
          → IsCounted first old.core events → IsCounted first new.core (events ++ stamped t told)
      port_counted number steps true port old new ports last events told is was =
          let becomes = step_becomes number steps is.before is.after is.link is.linked old.core new.core is.called is.status is.steps_as in
          subst (λ (es : List Event). IsCounted first new.core (events ++ stamped t es)) (sym is.told_is)
          (subst (λ (ss : List Stamp). IsCounted first new.core ss) (sym (stamped_more t events is.called is.status))
          (quiet_counted new.core new.core (events ++ stamped t is.called) is.status becomes.1 (alike_same new.core new.core refl)
          (becomes_counted ⊥ old.core new.core events is.called becomes.0 was)))
      port_counted number steps false port old new ports last events told is was = same_counted old new events told is.0 is.2 was

      -- each step keeps the counts
      pub step_counted : {L : Type 0} (number : L → ℕ) (steps : L → LinkCall → LinkAnswer → L → Type 0) (step : Step)
          (old new : CoreOnDiskView D)
          (ports last : PortsView L) (events : List Stamp) (told : List Event) (turned : Turned)
          → Does disk number steps step old new ports last told turned
          → Served layout old → IsCounted first old.core events → IsCounted first new.core (events ++ stamped t told)
      step_counted number steps (Client change) old new ports last events told turned is served was =
          subst (λ (es : List Event). IsCounted first new.core (events ++ stamped t es)) (sym is.2.4)
          (submit_counted old.core new.core (command_of change) events is.2.0 is.2.1 was)
      step_counted number steps (Port port) old new ports last events told turned is served was =
          port_counted number steps (nat_le port (length ports.links)) port old new ports last events told is.1 was
      step_counted number steps Flush old new ports last events told turned is served was =
          turn_counted old.committed old new events told turned refl is.1 served was
