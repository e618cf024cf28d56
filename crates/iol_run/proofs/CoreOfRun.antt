-- The core of a run is as the events say.
use Rattle.std.proofs.Common.{◌≡◌, ◌≤◌, refl, ℕ, nat_le, Bool, true, false, List, [], ◌∷◌, ◌++◌, length, Option, Some, None, ap, sym, ◌∙◌}
use Rattle.std.proofs.Common.{subst, arith}
use Rattle.iol_types.specs.Command.{CommandValue, command_of}
use Rattle.iol_types.specs.State.{State}
use Rattle.iol_disk.specs.Disk.{Disk}
use Rattle.iol_core.specs.Core.{CoreView}
use Rattle.iol_flush.specs.declared.need.Need.{Need}
use Rattle.iol_flush.specs.declared.need.Need.TheVariants as need
use Rattle.iol_front.specs.Fronts.{CommittedView}
use Rattle.iol_journal.specs.Journals.{JournalView}
use Rattle.iol_link.specs.Link.{LinkCall, LinkAnswer}
use Rattle.iol_core.specs.Events.{Event, Stamp, stamped}
use Rattle.iol_core.specs.Words.{accepted, acked}
use Rattle.iol_engine.proofs.CoreAfter as core_after
use Rattle.iol_engine.proofs.PortCalls.{step_becomes}
use Rattle.iol_engine.specs.Engine as engine
use Rattle.iol_engine.specs.Ports.{PortsView}
use Rattle.iol_run.specs.CoreOnDisk.{CoreOnDiskView}
use Rattle.iol_run.specs.Ports.{StepsIf}
use Rattle.iol_run.specs.Runs.{RunView}
use Rattle.iol_run.specs.Schedules.{IsFresh}
use Rattle.iol_run.specs.Steps.{Does}
use Rattle.iol_run.specs.Turns.{Takes, HasCalled, Serves, IsTurn, met_by}
use Rattle.iol_run.specs.declared.turn.Turned.{Turned}
use Rattle.iol_run.specs.declared.turn.Turned.TheVariants.{Made, Idle, Waited}
use Rattle.iol_run.specs.declared.step.Step.{Step}
use Rattle.iol_run.specs.declared.step.Step.TheVariants.{Client, Port, Flush}

module _ (first : ℕ) (start : State) where
  abbrev pub Stands : List Stamp → CoreView → Type 0
  Stands events core = engine.Stands first start events core

  -- before its first step the core of a run is as the events say
  pub fresh_stands : {D L : Type 0} (disk : D → Disk) (journal : JournalView D) (links : List L) (run : RunView D L)
      → first ≡ journal.standing.number → start ≡ journal.standing.state → IsFresh disk journal links run
      → Stands run.events run.master.core
  fresh_stands disk journal links run number_is state_is fresh = record {
    done = [];
    accepted_is = ap accepted fresh.events ∙ sym fresh.queue;
    durable_is = fresh.state ∙ sym state_is;
    number_is = omega (arith, fresh.number, number_is);
    acked_is = ap (acked first) fresh.events ∙ (number_is ∙ sym fresh.number);
    flight = omega (arith, fresh.flight);
  }

  module _ {D : Type 0} where
    port_stands : {L : Type 0} (number : L → ℕ) (steps : L → LinkCall → LinkAnswer → L → Type 0) (there : Bool) (t port : ℕ)
        (events : List Stamp)
        (old new : CoreOnDiskView D) (ports last : PortsView L) (told : List Event)
        → StepsIf number steps there port old new ports last told
        → Stands events old.core → Stands (events ++ stamped t told) new.core
    port_stands number steps true t port events old new ports last told is was =
        let becomes = step_becomes number steps is.before is.after is.link is.linked old.core new.core is.called is.status is.steps_as in
        subst (λ (es : List Event). Stands (events ++ stamped t es) new.core) (sym is.told_is)
        (core_after.stepped_stands first start t events old.core new.core is.called is.status becomes.0 becomes.1 was)
    port_stands number steps false t port events old new ports last told is was =
        core_after.stays first start events (stamped t told) old.core new.core (ap (stamped t) is.2)
        (ap (λ (m : CoreOnDiskView D). m.core) is.0) was

    takes_stands : (t : ℕ) (events : List Stamp) (old new : CoreOnDiskView D) (told : List Event) (turned : Turned)
        → Takes old new told turned
        → Stands events old.core → Stands (events ++ stamped t told) new.core
    takes_stands t events old new told Made is was =
        subst (λ (es : List Event). Stands (events ++ stamped t es) new.core) (sym is.5)
        (core_after.quiet first start events [] old.core new.core refl (λ n. refl) queue (ap (λ (c : CoreView). c.durable) is.1.others)
        (ap (λ (c : CoreView). c.number) is.1.others)
        (subst (λ (cs : List CommandValue). new.core.flight ≤ length cs) (sym queue) is.1.longest.within) was)
      where
        queue : new.core.queue ≡ old.core.queue
        queue = ap (λ (c : CoreView). c.queue) is.1.others
    takes_stands t events old new told Idle is was =
        core_after.stays first start events (stamped t told) old.core new.core (ap (stamped t) is.2)
        (ap (λ (m : CoreOnDiskView D). m.core) is.1) was
    takes_stands t events old new told Waited is was =
        core_after.stays first start events (stamped t told) old.core new.core (ap (stamped t) is.2)
        (ap (λ (m : CoreOnDiskView D). m.core) is.1) was

    module _ (disk : D → Disk) where
      called_stands : (t : ℕ) (events : List Stamp) (old new : CoreOnDiskView D) (told : List Event) → HasCalled disk old new told
          → Stands events old.core → Stands (events ++ stamped t told) new.core
      called_stands t events old new [] is was = core_after.stays first start events [] old.core new.core refl is.0 was
      called_stands t events old new (e ∷ told) is was =
          subst (λ (es : List Event). Stands (events ++ stamped t es) new.core) (sym is.1)
          (core_after.quiet first start events _ old.core new.core refl (λ n. refl) (ap (λ (c : CoreView). c.queue) is.2)
          (ap (λ (c : CoreView). c.durable) is.2)
          (ap (λ (c : CoreView). c.number) is.2) (subst (λ (c : CoreView). c.flight ≤ length c.queue) (sym is.2) was.flight) was)

      serves_stands : (needs : Need) (t : ℕ) (events : List Stamp) (old new : CoreOnDiskView D) (told : List Event) (turned : Turned)
          → Serves disk needs old new told turned → Stands events old.core → Stands (events ++ stamped t told) new.core
      serves_stands need.Batch t events old new told turned is was = takes_stands t events old new told turned is was
      serves_stands need.Disk t events old new told Made is was = called_stands t events old new told is.2 was
      serves_stands need.Disk t events old new told Idle is was = absurd is
      serves_stands need.BatchOrDisk t events old new told turned is was = absurd is
      serves_stands need.Disk t events old new told Waited is was =
          core_after.stays first start events (stamped t told) old.core new.core (ap (stamped t) is.2)
          (ap (λ (m : CoreOnDiskView D). m.core) is.1) was
      serves_stands need.Publish t events old new told turned is was =
          core_after.stays first start events (stamped t told) old.core new.core (ap (stamped t) is.1.4) is.1.2 was
      serves_stands need.Stopped t events old new told turned is was =
          core_after.stays first start events (stamped t told) old.core new.core (ap (stamped t) is.2)
          (ap (λ (m : CoreOnDiskView D). m.core) is.1) was

      turn_stands : (committed : Option CommittedView) (t : ℕ) (events : List Stamp) (old new : CoreOnDiskView D) (told : List Event)
          (turned : Turned)
          → IsTurn disk committed old new told turned → Stands events old.core → Stands (events ++ stamped t told) new.core
      turn_stands (Some committed) t events old new told turned is was =
          subst (λ (es : List Event). Stands (events ++ stamped t es) new.core) (sym is.1.3)
          (core_after.acknowledges first start t events new.core.seen old.core new.core is.1.0 was)
      turn_stands None t events old new told turned is was = serves_stands (met_by old) t events old new told turned is was

      -- after a step of a run its core is as the events say
      pub step_stands : {L : Type 0} (number : L → ℕ) (steps : L → LinkCall → LinkAnswer → L → Type 0) (step : Step) (t : ℕ)
          (events : List Stamp)
          (old new : CoreOnDiskView D) (ports last : PortsView L) (told : List Event) (turned : Turned)
          → Does disk number steps step old new ports last told turned
          → Stands events old.core → Stands (events ++ stamped t told) new.core
      step_stands number steps (Client change) t events old new ports last told turned is was =
          subst (λ (es : List Event). Stands (events ++ stamped t es) new.core) (sym is.2.4)
          (core_after.submit_stands first start t events (command_of change) old.core new.core is.2.0 is.2.1 was)
      step_stands number steps (Port port) t events old new ports last told turned is was =
          port_stands number steps (nat_le port (length ports.links)) t port events old new ports last told is.1 was
      step_stands number steps Flush t events old new ports last told turned is was =
          turn_stands old.committed t events old new told turned is.1 was
