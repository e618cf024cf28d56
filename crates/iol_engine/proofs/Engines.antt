-- An engine keeps its invariant: its core is as the events say, and the events of each port are a run of its machine.
use Rattle.std.proofs.Common.{◌≡◌, ◌≤◌, refl, ◌+◌, ◌-◌, ℕ, suc, List, [], ◌∷◌, ◌++◌, length, Some, slice_get, slice_set, Result, Ok, Err}
use Rattle.std.proofs.Common.{take, ap, sym, ◌∙◌, subst, arith, append-nil, length-append, length-take}
use Rattle.std.proofs.Math.Seq.{take-append_seam}
use Rattle.std.proofs.lemmas.List.{length-take-le, take_all}
use mathlib.Core.List.{IsPrefix}
use Rattle.iol_types.specs.Command.{CommandValue, command_of}
use Rattle.iol_types.specs.declared.command.Change.{Change}
use Rattle.iol_core.proofs.Standing.{take_prefix}
use Rattle.iol_core.specs.Batches.{IsInFlight, acknowledged}
use Rattle.iol_core.specs.Core.{CoreView}
use Rattle.iol_core.specs.Submit.{IsSubmit}
use Rattle.iol_core.specs.declared.ticket.SubmitFault.{SubmitFault}
use Rattle.iol_front.proofs.Prefixes.{prefix_append, prefix_self, prefix_trans}
use Rattle.iol_front.specs.Fronts.{CommittedView, Start}
use Rattle.iol_port.specs.Stage.{PortValue}
use Rattle.iol_core.proofs.Words.{accepted-append}
use Rattle.iol_core.specs.Events.{Event, Acknowledged, DiskFailed, Stamp, stamped}
use Rattle.iol_core.specs.Own.{own}
use Rattle.iol_core.specs.Words.{accepted, acked}
use Rattle.iol_engine.proofs.Acknowledging.{Rises, rise-append, one_rises, silent_rises, stepped_rises, submit_rises}
use Rattle.iol_engine.proofs.CoreAfter.{acknowledges, core_after, quiet, stepped_stands, submit_stands}
use Rattle.iol_engine.proofs.Machines.{new_are_ports, one_stepped, port_stays}
use Rattle.iol_engine.proofs.OwnEvents.{submit_own}
use Rattle.iol_engine.proofs.PortCalls.{step_becomes}
use Rattle.iol_engine.proofs.PortRuns.{new_have_runs, ports_stay, runs_are, stepped, there_runs}
use Rattle.iol_engine.proofs.Changes as changes
use Rattle.iol_engine.proofs.Changes.{Becomes, Permits, Waits, changed}
use Rattle.iol_engine.proofs.Quiet.{AreQuiet, stamped_both}
use Rattle.iol_engine.specs.Acknowledged.{AcksRise}
use Rattle.iol_engine.specs.Engine.{EngineView, HaveRuns, IsEngine, MakesStep, Stands, any_steps, itself, ports_of, trace_of}
use Rattle.iol_engine.specs.PortRuns.{AreRunsOfPorts}
use Rattle.iol_engine.specs.PortSteps.{IsReady}
use Rattle.iol_engine.specs.Ports.{ArePorts, PortsView, new_machines}
use Rattle.iol_engine.specs.Submitted.{submit_told}

-- ---- what was seen

-- this number of commands was seen
take_within : {A : Type 0} (n : ℕ) (xs : List A) → length (take n xs) ≡ n → n ≤ length xs
take_within n xs is = omega (arith, is, length-take n xs)

same_seen : (old new : CoreView) → new.seen ≡ old.seen → new.number ≡ old.number
    → IsPrefix old.seen new.seen × (new.number ≡ old.number)
same_seen old new seen number = (subst (λ (cs : List CommandValue). IsPrefix old.seen cs) (sym seen) (prefix_self old.seen), number)

-- a call of a port leaves what was seen and what is durable
changed_kept : (old new : CoreView) (change : changes.Change) → new ≡ changed old change
    → IsPrefix old.seen new.seen × (new.number ≡ old.number)
changed_kept old new (Permits permits) is = same_seen old new (ap (λ (c : CoreView). c.seen) is) (ap (λ (c : CoreView). c.number) is)
changed_kept old new (Waits command permits) is =
    same_seen old new (ap (λ (c : CoreView). c.seen) is) (ap (λ (c : CoreView). c.number) is)

-- the first of all, and some of the rest
take_more_of : {A : Type 0} (n : ℕ) (xs ys : List A) → take (length xs + n) (xs ++ ys) ≡ xs ++ take n ys
take_more_of n [] ys = let none : 0 + n ≡ n = omega arith in ap (λ (k : ℕ). take k ys) none
take_more_of n (x ∷ xs) ys =
    let one : length (x ∷ xs) + n ≡ suc (length xs + n) = omega arith in
    ap (λ (k : ℕ). take k (x ∷ (xs ++ ys))) one ∙ ap (λ (rest : List _). x ∷ rest) (take_more_of n xs ys)

-- ---- what holds of an engine

module _ (start : Start) where
  abbrev first : ℕ
  first = start.number

  -- an engine that has reported nothing, over what is durable
  pub fresh_engine : (new : EngineView) → new.core.queue ≡ [] → new.core.durable ≡ start.state → new.core.number ≡ first
      → new.core.seen ≡ [] → new.core.flight ≡ 0 → new.machines ≡ new_machines (length new.connections)
      → length new.connections ≡ length start.state → new.told ≡ [] → IsEngine start new
  fresh_engine new queue durable number seen flight machines count told = record {
    begun = new.connections;
    counted = λ port. 0;
    places =
        subst (λ (ms : List PortValue). ArePorts {L = ℕ} (record { machines = ms; links = new.connections })) (sym machines)
        (new_are_ports (length new.connections) new.connections refl);
    stands = record {
      done = [];
      accepted_is = ap (λ (es : List Event). accepted (stamped 0 es)) told ∙ sym queue;
      durable_is = durable;
      number_is = omega (arith, number);
      acked_is = ap (λ (es : List Event). acked first (stamped 0 es)) told ∙ sym number;
      flight = omega (arith, flight);
    };
    known =
        ap (λ (n : ℕ). take (n - first) new.core.seen) number
        ∙ (ap (λ (n : ℕ). take n new.core.seen) none ∙ sym (ap (λ (n : ℕ). take (n - first) (accepted (trace_of new))) number
        ∙ ap (λ (n : ℕ). take n (accepted (trace_of new))) none));
    count = count;
    runs =
        subst (λ (ms : List PortValue).
        HaveRuns itself any_steps first start.state (λ port. 0) new.connections
        (record { machines = ms; links = new.connections }) (trace_of new))
        (sym machines)
        (subst (λ (es : List Event).
        HaveRuns itself any_steps first start.state (λ port. 0) new.connections
        (record { machines = new_machines (length new.connections); links = new.connections }) (stamped 0 es)) (sym told)
        (new_have_runs itself any_steps first start.state new.connections));
    rise = subst (λ (es : List Event). AcksRise first (stamped 0 es)) (sym told) tt;
  }
    where
      none : first - first ≡ 0
      none = omega arith

  -- acknowledged numbers that rise after earlier events
  rises_on : (old new : EngineView) (told : List Event) → IsEngine start old → Rises old.core new.core (stamped 0 told)
      → AcksRise first (stamped 0 (old.told ++ told))
  rises_on old new told was rises =
      subst (λ (ss : List Stamp). AcksRise first ss) (sym (stamped_both 0 old.told told))
      (rise-append first (trace_of old) (stamped 0 told) was.rise
      (subst (λ (n : ℕ). AcksRise n (stamped 0 told)) (sym was.stands.acked_is) rises.rise))

  -- the durable commands that a core's pass has seen are the first that were accepted
  abbrev IsKnown : List Stamp → CoreView → Type 0
  IsKnown events core = take (core.number - first) core.seen ≡ take (core.number - first) (accepted events)

  -- all that is durable was accepted
  durable_in : (events : List Stamp) (core : CoreView) → (is : Stands first start.state events core)
      → (core.number - first ≡ length is.done) × (core.number - first ≤ length (accepted events))
  durable_in events core is = (
    omega (arith, is.number_is),
    omega (arith, is.number_is, ap length is.accepted_is, length-append is.done core.queue),
  )

  -- if the same number is durable, and no fewer were seen
  known_on : (events more : List Stamp) (old new : CoreView) → IsPrefix old.seen new.seen → new.number ≡ old.number
      → Stands first start.state events old → IsKnown events old → IsKnown (events ++ more) new
  known_on events more old new kept same stands known =
      subst (λ (n : ℕ). take (n - first) new.seen ≡ take (n - first) (accepted (events ++ more))) (sym same)
      (take_prefix old.seen new.seen durable kept seen
      ∙ (known
      ∙ sym (ap (take durable) (accepted-append events more)
      ∙ take_prefix (accepted events) (accepted events ++ accepted more) durable (prefix_append (accepted events) (accepted more))
      (durable_in events old stands).1)))
    where
      durable : ℕ
      durable = old.number - first

      seen : durable ≤ length old.seen
      seen = take_within durable old.seen
          (ap length known ∙ length-take-le durable (accepted events) (durable_in events old stands).1)

  -- more is reported, which is no port's own, and the ports stay
  pub engine_tells : (old new : EngineView) (told : List Event) → new.machines ≡ old.machines → new.connections ≡ old.connections
      → new.told ≡ old.told ++ told → ((q : ℕ) → own q (stamped 0 told) ≡ [])
      → Stands first start.state (trace_of old ++ stamped 0 told) new.core → Rises old.core new.core (stamped 0 told)
      → IsKnown (trace_of old ++ stamped 0 told) new.core → IsEngine start old → IsEngine start new
  engine_tells old new told machines connections told_is none stands rises known was = record {
    begun = was.begun;
    counted = was.counted;
    places = subst (λ (p : PortsView ℕ). ArePorts p) (sym same) was.places;
    stands = subst (λ (ss : List Stamp). Stands first start.state ss new.core) (sym trace) stands;
    known = subst (λ (ss : List Stamp). IsKnown ss new.core) (sym trace) known;
    count = was.count;
    runs =
        subst (λ (ss : List Stamp). HaveRuns itself any_steps first start.state was.counted was.begun (ports_of new) ss)
        (sym trace)
        (ports_stay itself any_steps first start.state was.counted was.begun (ports_of old) (ports_of new) (trace_of old)
        (stamped 0 told) same none was.runs);
    rise = subst (λ (es : List Event). AcksRise first (stamped 0 es)) (sym told_is) (rises_on old new told was rises);
  }
    where
      same : ports_of new ≡ ports_of old
      same = λ i. record { machines = machines i; links = connections i }

      trace : trace_of new ≡ trace_of old ++ stamped 0 told
      trace = ap (stamped 0) told_is ∙ stamped_both 0 old.told told

  -- nothing is reported, the ports stay, and the core has the same commands
  pub engine_stays : (old new : EngineView) → new.machines ≡ old.machines → new.connections ≡ old.connections → new.told ≡ old.told
      → IsPrefix old.core.seen new.core.seen → new.core.queue ≡ old.core.queue → new.core.durable ≡ old.core.durable
      → new.core.number ≡ old.core.number → new.core.flight ≤ length new.core.queue → IsEngine start old → IsEngine start new
  engine_stays old new machines connections told kept queue durable number flight was =
      engine_tells old new [] machines connections (told ∙ sym (append-nil old.told)) (λ q. refl)
      (quiet first start.state (trace_of old) [] old.core new.core refl (λ n. refl) queue durable number flight was.stands)
      (silent_rises 0 old.core new.core [] refl number)
      (known_on (trace_of old) [] old.core new.core kept number was.stands was.known) was

  -- a client's command leaves what was seen and what is durable
  submit_kept : (old new : CoreView) (command : CommandValue) (answer : Result ℕ SubmitFault) → IsSubmit old command new answer
      → IsPrefix old.seen new.seen × (new.number ≡ old.number)
  submit_kept old new command (Ok n) is = same_seen old new (ap (λ (c : CoreView). c.seen) is.2) (ap (λ (c : CoreView). c.number) is.2)
  submit_kept old new command (Err f) is = same_seen old new (ap (λ (c : CoreView). c.seen) is.1) (ap (λ (c : CoreView). c.number) is.1)

  -- a client's command
  pub engine_submits : (old new : EngineView) (change : Change) (answer : Result ℕ SubmitFault) → new.machines ≡ old.machines
      → new.connections ≡ old.connections → IsSubmit old.core (command_of change) new.core answer
      → new.told ≡ old.told ++ submit_told (command_of change) answer → IsEngine start old → IsEngine start new
  engine_submits old new change answer machines connections is told was =
      engine_tells old new (submit_told (command_of change) answer) machines connections told (λ q. submit_own q 0 change answer)
      (submit_stands first start.state 0 (trace_of old) (command_of change) old.core new.core answer is was.stands)
      (submit_rises 0 old.core new.core (command_of change) answer is)
      (known_on (trace_of old) (stamped 0 (submit_told (command_of change) answer)) old.core new.core
      (submit_kept old.core new.core (command_of change) answer is).0 (submit_kept old.core new.core (command_of change) answer is).1
      was.stands was.known) was

  -- the batch in flight is acknowledged, and the core's pass has seen it
  acked_known : (old new : CoreView) (events : List Stamp) (before commands : List CommandValue) → new ≡ acknowledged old new.seen
      → IsPrefix old.seen new.seen → IsPrefix (before ++ commands) new.seen → first + length before ≡ old.number
      → commands ≡ take old.flight old.queue → Stands first start.state events old → IsKnown events old
      → take (old.number + old.flight - first) new.seen ≡ take (old.number + old.flight - first) (accepted events)
  acked_known old new events before commands is kept shown follows batch stands known = seen_is ∙ sym accepted_first
    where
      durable : ℕ
      durable = old.number - first

      counted : length commands ≡ old.flight
      counted = ap length batch ∙ length-take-le old.flight old.queue stands.flight

      long : durable ≤ length old.seen
      long = take_within durable old.seen
          (ap length known ∙ length-take-le durable (accepted events) (durable_in events old stands).1)

      begins : IsPrefix before new.seen
      begins = prefix_trans before (before ++ commands) new.seen (prefix_append before commands) shown

      -- the commands before the batch are the durable ones
      front_is : before ≡ stands.done
      front_is =
          sym (take_all durable before (omega (arith, follows)))
          ∙ (sym (take_prefix before new.seen durable begins (omega (arith, follows)))
          ∙ (take_prefix old.seen new.seen durable kept long
          ∙ (known
          ∙ (ap (take durable) stands.accepted_is
          ∙ (ap (λ (n : ℕ). take n (stands.done ++ old.queue)) (durable_in events old stands).0
          ∙ take-append_seam stands.done old.queue)))))

      seen_is : take (old.number + old.flight - first) new.seen ≡ before ++ commands
      seen_is =
          take_prefix (before ++ commands) new.seen (old.number + old.flight - first) shown
          (omega (arith, follows, counted, length-append before commands))
          ∙ take_all (old.number + old.flight - first) (before ++ commands) (omega (arith, follows, counted, length-append before commands))

      accepted_first : take (old.number + old.flight - first) (accepted events) ≡ before ++ commands
      accepted_first =
          ap (take (old.number + old.flight - first)) stands.accepted_is
          ∙ (ap (λ (n : ℕ). take n (stands.done ++ old.queue)) (omega (arith, stands.number_is))
          ∙ (take_more_of old.flight stands.done old.queue
          ∙ (ap (λ (cs : List CommandValue). cs ++ take old.flight old.queue) (sym front_is)
          ∙ ap (λ (cs : List CommandValue). before ++ cs) (sym batch))))

  pub engine_acknowledges : (old new : EngineView) (committed : CommittedView) → new.machines ≡ old.machines
      → new.connections ≡ old.connections → new.core ≡ acknowledged old.core new.core.seen → IsPrefix old.core.seen new.core.seen
      → IsPrefix (committed.before ++ committed.commands) new.core.seen → IsInFlight start old.core committed
      → new.told ≡ old.told ++ Acknowledged new.core.number ∷ [] → IsEngine start old → IsEngine start new
  engine_acknowledges old new committed machines connections is kept shown flight told was =
      let number : new.core.number ≡ old.core.number + old.core.flight = ap (λ (c : CoreView). c.number) is in
      let ack = stamped 0 (Acknowledged new.core.number ∷ []) in
      let more : accepted (trace_of old ++ ack) ≡ accepted (trace_of old) = accepted-append (trace_of old) ack ∙ append-nil (accepted
      (trace_of old)) in
      engine_tells old new (Acknowledged new.core.number ∷ []) machines connections told (λ q. refl)
      (acknowledges first start.state 0 (trace_of old) new.core.seen old.core new.core is was.stands)
      (one_rises 0 old.core new.core (Acknowledged new.core.number) refl (omega (arith, number)))
      (ap (λ (n : ℕ). take (n - first) new.core.seen) number
      ∙ (acked_known old.core new.core (trace_of old) committed.before committed.commands is kept shown flight.follows flight.commands
      was.stands was.known
      ∙ (ap (take (old.core.number + old.core.flight - first)) (sym more)
      ∙ ap (λ (n : ℕ). take (n - first) (accepted (trace_of old ++ ack))) (sym number)))) was

  -- a disk call has failed
  pub engine_fails : (old new : EngineView) → new.machines ≡ old.machines → new.connections ≡ old.connections
      → new.core ≡ record old.core { stopped = new.core.stopped } → new.told ≡ old.told ++ DiskFailed ∷ [] → IsEngine start old
      → IsEngine start new
  engine_fails old new machines connections is told was =
      let number = ap (λ (c : CoreView). c.number) is in
      let queue = ap (λ (c : CoreView). c.queue) is in
      engine_tells old new (DiskFailed ∷ []) machines connections told (λ q. refl)
      (quiet first start.state (trace_of old) (stamped 0 (DiskFailed ∷ [])) old.core new.core refl (λ n. refl) queue
      (ap (λ (c : CoreView). c.durable) is) number
      (subst (λ (c : CoreView). c.flight ≤ length c.queue) (sym is) was.stands.flight) was.stands)
      (one_rises 0 old.core new.core DiskFailed (sym number) (omega (arith, number)))
      (known_on (trace_of old) (stamped 0 (DiskFailed ∷ [])) old.core new.core
      (same_seen old.core new.core (ap (λ (c : CoreView). c.seen) is) number).0 number was.stands was.known) was

  -- a port makes its step
  pub engine_steps : (port : ℕ) (old new : EngineView) (from into : ℕ) (told : List Event)
      → slice_get old.connections (port - 1) ≡ Some from → new.connections ≡ slice_set old.connections (port - 1) into
      → (is : MakesStep itself any_steps port old.core new.core old.machines new.machines from into told) → IsReady is.after.stage
      → new.told ≡ old.told ++ told → IsEngine start old → IsEngine start new
  engine_steps port old new from into told from_is into_is is ready told_is was = record {
    begun = was.begun;
    counted = stepped port was.counted;
    places =
        subst (λ (p : PortsView ℕ). ArePorts p) (λ i. record { machines = sym is.last_is i; links = sym into_is i })
        (one_stepped (ports_of old) (port - 1) is.before is.after into was.places is.machine_is
        (port_stays itself any_steps is.before is.after from into old.core new.core is.called is.status is.steps_as) ready);
    stands = subst (λ (ss : List Stamp). Stands first start.state ss new.core) (sym trace) stands;
    known =
        subst (λ (ss : List Stamp). IsKnown ss new.core) (sym trace)
        (known_on (trace_of old) (stamped 0 told) old.core new.core kept.0 kept.1 was.stands was.known);
    count = was.count;
    runs =
        subst (λ (ss : List Stamp). HaveRuns itself any_steps first start.state (stepped port was.counted) was.begun (ports_of new) ss)
        (sym trace)
        (there_runs itself any_steps first start.state was.counted 0 port was.begun old.core new.core (ports_of old)
        (ports_of new) from into
        (trace_of old) told (core_after first start.state (trace_of old) old.core was.stands) was.runs from_is into_is is);
    rise = subst (λ (es : List Event). AcksRise first (stamped 0 es)) (sym told_is) (rises_on old new told was rises);
  }
    where
      trace : trace_of new ≡ trace_of old ++ stamped 0 told
      trace = ap (stamped 0) told_is ∙ stamped_both 0 old.told told

      becomes : Becomes ⊥ old.core new.core is.called × AreQuiet is.status
      becomes = step_becomes itself any_steps is.before is.after from into old.core new.core is.called is.status is.steps_as

      kept : IsPrefix old.core.seen new.core.seen × (new.core.number ≡ old.core.number)
      kept = changed_kept old.core new.core becomes.0.change becomes.0.new_is

      stands : Stands first start.state (trace_of old ++ stamped 0 told) new.core
      stands =
          subst (λ (es : List Event). Stands first start.state (trace_of old ++ stamped 0 es) new.core) (sym is.told_is)
          (stepped_stands first start.state 0 (trace_of old) old.core new.core is.called is.status becomes.0 becomes.1 was.stands)

      rises : Rises old.core new.core (stamped 0 told)
      rises =
          subst (λ (es : List Event). Rises old.core new.core (stamped 0 es)) (sym is.told_is)
          (stepped_rises 0 old.core new.core is.called is.status becomes.0 becomes.1)

  -- the events of its ports are their runs
  pub engine_runs : (engine : EngineView) → (is : IsEngine start engine)
      → AreRunsOfPorts itself any_steps first start.state is.counted is.begun (trace_of engine) engine.connections
  engine_runs engine is =
      runs_are itself any_steps first start.state is.counted is.begun (ports_of engine) (trace_of engine) is.count is.runs
