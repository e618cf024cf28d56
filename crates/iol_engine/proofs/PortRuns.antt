-- The events of each port, from the steps of ports, are a run of its machine.
use Rattle.std.proofs.Common.{◌≡◌, ◌<◌, ◌⊎◌, inl, inr, refl, ◌+◌, ◌-◌, ℕ, zero, suc, nat_eq, if◌then◌else◌, Bool, true, false, List}
use Rattle.std.proofs.Common.{[], ◌++◌}
use Rattle.std.proofs.Common.{length, Some, ◌≤◌, slice_get, slice_set, get_or, ap, sym, ◌∙◌, subst, arith, append-nil, append_assoc}
use Rattle.std.proofs.lemmas.Bool.{eqb-true}
use Rattle.std.proofs.lemmas.Bool.Decides.{nat_tests}
use Rattle.std.proofs.lemmas.List.{length-set}
use Rattle.std.proofs.lemmas.Option.{slice_get_within, slice_get-get_or}
use Rattle.iol_types.specs.State.{State}
use Rattle.iol_core.proofs.Places.{get_written, get_other}
use Rattle.iol_core.specs.Core.{CoreView}
use Rattle.iol_link.specs.Link.{LinkCall, LinkAnswer}
use Rattle.iol_port.proofs.Leading.{led_is}
use Rattle.iol_port.specs.History.{HasLed}
use Rattle.iol_port.specs.Stage.{PortValue, new_machine}
use Rattle.iol_port.specs.Status.{status_of}
use Rattle.iol_port.specs.Telling.{status_told}
use Rattle.iol_core.proofs.Own.{own-append}
use Rattle.iol_core.specs.Events.{Event, Stamp, stamped}
use Rattle.iol_core.specs.Own.{own, status_after, status_shown}
use Rattle.iol_core.specs.Statuses.{Off}
use Rattle.iol_engine.proofs.Histories.{Led, step_led}
use Rattle.iol_engine.proofs.Machines.{elsewhere, machines_length, machines_new, one_some}
use Rattle.iol_engine.proofs.OwnEvents.{step_own}
use Rattle.iol_engine.proofs.StatusesShown.{status-append, step_status}
use Rattle.iol_engine.specs.Engine as engine
use Rattle.iol_engine.specs.Engine.{MakesStep}
use Rattle.iol_engine.specs.PortRuns.{history_of, IsPortRun, AreRunsOfPorts, IsCoreAfter}
use Rattle.iol_engine.specs.Ports.{PortsView, new_machines}

apart_next : (m n : ℕ) → nat_eq m n ≡ false → nat_eq (n + 1) (m + 1) ≡ false
apart_next m n is = grind (arith, nat_tests, is)

apart_far : (m n : ℕ) → m < n → nat_eq m n ≡ false
apart_far m n is = grind (arith, nat_tests, is)

apart_from : (place count q : ℕ) → place < count → (q ≡ 0) ⊎ (count < q) → nat_eq (place + 1) q ≡ false
apart_from place count q within (inl none) = grind (arith, nat_tests, none)
apart_from place count q within (inr beyond) = apart_far (place + 1) q (omega (arith, within, beyond))

-- the steps that are counted once a port has made one more
abbrev pub stepped : ℕ → (ℕ → ℕ) → ℕ → ℕ
stepped port counted other = counted other + (if nat_eq port other then 1 else 0)

moved : (port : ℕ) (counted : ℕ → ℕ) (own : ℕ) → port ≡ own → stepped port counted own ≡ suc (counted own)
moved port counted own same = grind (arith, nat_tests, same)

unmoved : (port : ℕ) (counted : ℕ → ℕ) (other : ℕ) → 1 ≤ port → nat_eq other (port - 1) ≡ false
    → stepped port counted (other + 1) ≡ counted (other + 1)
unmoved port counted other some apart = grind (arith, nat_tests, some, apart)

module _ {L : Type 0} (number : L → ℕ) (steps : L → LinkCall → LinkAnswer → L → Type 0) (first : ℕ) (start : State) where
  abbrev IsRun : ℕ → L → ℕ → PortValue → L → List Stamp → Type 0
  IsRun port begun made machine link events = IsPortRun number steps first start port begun made machine link events

  -- the machine of a run was led to where it is
  history_led : (port : ℕ) (begun : L) (made : ℕ) (machine : PortValue) (link : L) (events : List Stamp)
      → (is : IsRun port begun made machine link events)
      → HasLed port (history_of number steps first start port begun made machine link events is) machine
  history_led port begun zero machine link events is = is.0
  history_led port begun (suc made) machine link events is =
      step_led number steps port is.before machine is.linked link is.old is.new is.called is.status
      (history_of number steps first start port begun made is.before is.linked is.earlier is.led)
      (history_led port begun made is.before is.linked is.earlier is.led) is.step

  run_led : (port : ℕ) (begun : L) (made : ℕ) (machine : PortValue) (link : L) (events : List Stamp)
      → IsRun port begun made machine link events
      → Led port machine
  run_led port begun made machine link events is =
      (history_of number steps first start port begun made machine link events is, history_led port begun made machine link events is)

  -- its status is the one that was reported last
  pub run_status : (port : ℕ) (begun : L) (made : ℕ) (machine : PortValue) (link : L) (events : List Stamp)
      → IsRun port begun made machine link events
      → status_shown port events ≡ status_told (status_of machine.stage)
  run_status port begun zero machine link events is =
      ap (status_after Off) is.2 ∙ ap (λ (m : PortValue). status_told (status_of m.stage)) (sym is.0)
  run_status port begun (suc made) machine link events is =
      ap (λ (ss : List Stamp). status_shown port ss) is.told
      ∙ (ap (status_after Off) (own-append port (is.earlier ++ told) is.later)
      ∙ (ap (λ (es : List Event). status_after Off (own port (is.earlier ++ told) ++ es)) is.others
      ∙ (ap (status_after Off) (append-nil (own port (is.earlier ++ told)))
      ∙ (ap (status_after Off) (own-append port is.earlier told)
      ∙ (status-append Off (own port is.earlier) (own port told)
      ∙ step_status port is.clock number steps (status_shown port is.earlier) is.before machine is.linked link is.old is.new is.called
      is.status
      (run_status port begun made is.before is.linked is.earlier is.led) there is.step)))))
    where
      told : List Stamp
      told = stamped is.clock (is.called ++ is.status)

      led : Led port machine
      led = run_led port begun (suc made) machine link events is

      there : machine.port ≡ port
      there = (led_is port led.0 machine led.1).port_is

  -- events that are not the port's own change nothing
  more_events : (port : ℕ) (begun : L) (made : ℕ) (machine : PortValue) (link : L) (events more : List Stamp)
      → IsRun port begun made machine link events
      → own port more ≡ [] → IsRun port begun made machine link (events ++ more)
  more_events port begun zero machine link events more is none =
      (is.0, is.1, own-append port events more ∙ (ap (λ (es : List Event). es ++ own port more) is.2 ∙ none))
  more_events port begun (suc made) machine link events more is none = record {
    before = is.before;
    linked = is.linked;
    old = is.old;
    new = is.new;
    earlier = is.earlier;
    clock = is.clock;
    called = is.called;
    status = is.status;
    later = is.later ++ more;
    led = is.led;
    core = is.core;
    step = is.step;
    told =
        ap (λ (ss : List Stamp). ss ++ more) is.told
        ∙ append_assoc (is.earlier ++ stamped is.clock (is.called ++ is.status)) is.later more;
    others = own-append port is.later more ∙ (ap (λ (es : List Event). es ++ own port more) is.others ∙ none);
  }

  -- the run of a port that has a link, and the runs of all ports
  abbrev RunAt : (ℕ → ℕ) → List L → PortsView L → List Stamp → ℕ → Type 0
  RunAt counted links ports events place = engine.RunAt number steps first start counted links ports events place

  abbrev HaveRuns : (ℕ → ℕ) → List L → PortsView L → List Stamp → Type 0
  HaveRuns counted links ports events = engine.HaveRuns number steps first start counted links ports events

  -- no port makes a step, and no event is a port's own
  pub ports_stay : (counted : ℕ → ℕ) (links : List L) (ports last : PortsView L) (events more : List Stamp) → last ≡ ports
      → ((port : ℕ) → own port more ≡ []) → HaveRuns counted links ports events → HaveRuns counted links last (events ++ more)
  ports_stay counted links ports last events more same none is =
      subst (λ (p : PortsView L). HaveRuns counted links p (events ++ more)) (sym same) (record {
        count = is.count;
        machines = is.machines;
        runs = λ place begun link machine at linked there.
            more_events (place + 1) begun (counted (place + 1)) machine link events more (is.runs place begun link machine at linked there)
            (none (place + 1));
        others = λ port beyond. own-append port events more
            ∙ (ap (λ (es : List Event). es ++ own port more) (is.others port beyond) ∙ none port);
      })

  -- the steps of the ports that have links are counted otherwise
  pub recounted : (counted other : ℕ → ℕ) (links : List L) (ports : PortsView L) (events : List Stamp)
      → ((place : ℕ) → place < length links → counted (place + 1) ≡ other (place + 1)) → HaveRuns counted links ports events
      → HaveRuns other links ports events
  recounted counted other links ports events same is = record {
    count = is.count;
    machines = is.machines;
    runs = λ place begun link machine at linked there.
        subst (λ (n : ℕ). IsRun (place + 1) begun n machine link events) (same place (slice_get_within links place begun at))
        (is.runs place begun link machine at linked there);
    others = is.others;
  }

  module _ (counted : ℕ → ℕ) (t port : ℕ) (links : List L) (old new : CoreView) (ports last : PortsView L) (linked_from linked_to : L)
      (events : List Stamp) (told : List Event) (core : IsCoreAfter first start events old) (are : HaveRuns counted links ports events)
      (linked_is : slice_get ports.links (port - 1) ≡ Some linked_from)
      (links_are : last.links ≡ slice_set ports.links (port - 1) linked_to)
      (is : MakesStep number steps port old new ports.machines last.machines linked_from linked_to told) where
    abbrev place : ℕ
    place = port - 1

    within : place < length links
    within = omega (arith, slice_get_within ports.links place linked_from linked_is, are.count)

    -- the run of the port that makes its step, before it
    before_run : (begun : L) → slice_get links place ≡ Some begun
        → IsRun (place + 1) begun (counted (place + 1)) is.before linked_from events
    before_run begun at = are.runs place begun linked_from is.before at linked_is is.machine_is

    led : Led (place + 1) is.before
    led =
        let begun = slice_get-get_or links place linked_from within in
        let run = before_run (get_or links place linked_from) begun in
        run_led (place + 1) (get_or links place linked_from) (counted (place + 1)) is.before linked_from events run

    before_port : is.before.port ≡ place + 1
    before_port = (led_is (place + 1) led.0 is.before led.1).port_is

    others_own : (q : ℕ) → nat_eq (place + 1) q ≡ false → own q (stamped t told) ≡ []
    others_own q apart =
        ap (λ (es : List Event). own q (stamped t es)) is.told_is
        ∙ step_own q t number steps (place + 1) is.before is.after linked_from linked_to old new is.called is.status before_port apart
        led is.steps_as

    -- the port has made one step more
    one_more : stepped port counted (place + 1) ≡ suc (counted (place + 1))
    one_more = moved port counted (place + 1) (omega (arith, is.some))

    -- and after it
    after_run : (begun : L) → slice_get links place ≡ Some begun
        → IsRun (place + 1) begun (stepped port counted (place + 1)) is.after linked_to (events ++ stamped t told)
    after_run begun at =
        subst (λ (n : ℕ). IsRun (place + 1) begun n is.after linked_to (events ++ stamped t told)) (sym one_more) (record {
          before = is.before;
          linked = linked_from;
          old = old;
          new = new;
          earlier = events;
          clock = t;
          called = is.called;
          status = is.status;
          later = [];
          led = before_run begun at;
          core = core;
          step = is.steps_as;
          told =
              ap (λ (es : List Event). events ++ stamped t es) is.told_is
              ∙ sym (append-nil (events ++ stamped t (is.called ++ is.status)));
          others = refl;
        })

    run_at : (other : ℕ) (same : Bool) → nat_eq other place ≡ same
        → RunAt (stepped port counted) links last (events ++ stamped t told) other
    run_at other true eq = λ begun link machine at linked there.
        let here : other ≡ place = eqb-true other place eq in
        let count : ℕ → ℕ = λ n. stepped port counted (n + 1) in
        let link_same : linked_to ≡ link =
        one_some linked_to link
        (sym (ap (λ (ls : List L). slice_get ls other) links_are
        ∙ (ap (slice_get (slice_set ports.links place linked_to)) here ∙ get_written ports.links place linked_to linked_from linked_is))
        ∙ linked) in
        let machine_same : is.after ≡ machine =
        one_some is.after machine
        (sym (ap (λ (ms : List PortValue). slice_get ms other) is.last_is
        ∙ (ap (slice_get (slice_set ports.machines place is.after)) here
        ∙ get_written ports.machines place is.after is.before is.machine_is)) ∙ there) in
        let run = after_run begun (ap (slice_get links) (sym here) ∙ at) in
        subst (λ (n : ℕ). IsRun (n + 1) begun (count n) machine link (events ++ stamped t told)) (sym here)
        (subst (λ (l : L). IsRun (place + 1) begun (count place) machine l (events ++ stamped t told)) link_same
        (subst (λ (m : PortValue). IsRun (place + 1) begun (count place) m linked_to (events ++ stamped t told)) machine_same run))
    run_at other false eq = λ begun link machine at linked there.
        let run =
        are.runs other begun link machine at
        (sym (ap (λ (ls : List L). slice_get ls other) links_are ∙ get_other ports.links place other linked_to (elsewhere other place eq))
        ∙ linked)
        (sym (ap (λ (ms : List PortValue). slice_get ms other) is.last_is
        ∙ get_other ports.machines place other is.after (elsewhere other place eq)) ∙ there) in
        subst (λ (n : ℕ). IsRun (other + 1) begun n machine link (events ++ stamped t told))
        (sym (unmoved port counted other is.some eq))
        (more_events (other + 1) begun (counted (other + 1)) machine link events (stamped t told) run
        (others_own (other + 1) (apart_next other place eq)))

    pub there_runs : HaveRuns (stepped port counted) links last (events ++ stamped t told)
    there_runs = record {
      count = ap length links_are ∙ (length-set ports.links place linked_to ∙ are.count);
      machines = ap length is.last_is
          ∙ (length-set ports.machines place is.after ∙ (are.machines
          ∙ sym (ap length links_are ∙ length-set ports.links place linked_to)));
      runs = λ other. run_at other (nat_eq other place) refl;
      others = λ q beyond. own-append q events (stamped t told)
          ∙ (ap (λ (es : List Event). es ++ own q (stamped t told)) (are.others q beyond)
          ∙ others_own q (apart_from place (length links) q within beyond));
    }

  -- they are the runs of the ports
  pub runs_are : (counted : ℕ → ℕ) (links : List L) (ports : PortsView L) (events : List Stamp) → length links ≡ length start
      → HaveRuns counted links ports events → AreRunsOfPorts number steps first start counted links events ports.links
  runs_are counted links ports events count are = record {
    count = count;
    runs = λ place begun link at linked.
        let inside = slice_get_within ports.links place link linked in
        let there = slice_get-get_or ports.machines place (new_machine 0) (omega (arith, inside, are.machines)) in
        let machine = get_or ports.machines place (new_machine 0) in
        let run = are.runs place begun link machine at linked there in
        let times = counted (place + 1) in
        record {
          machine = machine;
          run = run;
          led = history_led (place + 1) begun times machine link events run;
          status = run_status (place + 1) begun times machine link events run;
        };
    others = are.others;
  }

  -- before the first step
  pub new_have_runs : (links : List L) → HaveRuns (λ port. 0) links (record { machines = new_machines (length links); links = links }) []
  new_have_runs links = record {
    count = refl;
    machines = machines_length 0 (length links);
    runs = λ place begun link machine at linked there. (
      machines_new 0 (length links) place machine there ∙ ap new_machine (omega arith),
      one_some link begun (sym linked ∙ at),
      refl,
    );
    others = λ port beyond. refl;
  }
