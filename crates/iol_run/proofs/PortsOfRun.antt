-- The events of each port, from the steps of a run, are a run of its machine.
use Rattle.std.proofs.Common.{◌≡◌, ◌<◌, refl, ◌+◌, ℕ, nat_le, Bool, true, false, List, [], ◌∷◌, ◌++◌, length}
use Rattle.std.proofs.Common.{ap, sym, ◌∙◌, subst, arith, append-nil, append_assoc}
use Rattle.std.proofs.lemmas.Bool.Decides.{nat_tests}
use Rattle.iol_types.specs.State.{State}
use Rattle.iol_disk.specs.Disk.{Disk}
use Rattle.iol_journal.specs.Journals.{JournalView}
use Rattle.iol_link.specs.Link.{LinkCall, LinkAnswer}
use Rattle.iol_core.specs.Events.{Event, Stamp, stamped}
use Rattle.iol_core.specs.Own.{own}
use Rattle.iol_engine.proofs.CoreAfter.{core_after}
use Rattle.iol_engine.proofs.OwnEvents.{submit_own}
use Rattle.iol_engine.proofs.PortRuns.{new_have_runs, ports_stay, recounted, runs_are, stepped, there_runs}
use Rattle.iol_engine.specs.Engine as engine
use Rattle.iol_engine.specs.Engine.{MakesStep}
use Rattle.iol_engine.specs.PortRuns.{IsCoreAfter}
use Rattle.iol_engine.specs.Ports.{PortsView, new_machines}
use Rattle.iol_run.proofs.CoreOfRun.{Stands, fresh_stands, step_stands}
use Rattle.iol_run.proofs.FlusherTells.{PassesOver, turn_says}
use Rattle.iol_run.specs.CoreOnDisk.{CoreOnDiskView, clock_of}
use Rattle.iol_run.specs.PortRuns.{ArePortRuns, steps_of}
use Rattle.iol_run.specs.Ports.{StepsThere, StepsIf}
use Rattle.iol_run.specs.Runs.{RunView}
use Rattle.iol_run.specs.Schedules.{IsFresh}
use Rattle.iol_run.specs.Steps.{Does}
use Rattle.iol_run.specs.Tasks.{HasMade}
use Rattle.iol_run.specs.declared.turn.Turned.{Turned}
use Rattle.iol_run.specs.declared.step.Step.{Step}
use Rattle.iol_run.specs.declared.step.Step.TheVariants.{Client, Port, Flush}

-- with one more step, a port has made the steps that it had made, and this one if it is its own
steps_after : (port : ℕ) (made : List Step) (step : Step) → steps_of port (made ++ step ∷ []) ≡ steps_of port made + steps_of port (step ∷
    [])
steps_after port [] step = omega arith
steps_after port (Client change ∷ made) step = steps_after port made step
steps_after port (Port told ∷ made) step = omega (arith, steps_after port made step)
steps_after port (Flush ∷ made) step = steps_after port made step

beyond_step : (place port links : ℕ) → place < links → nat_le port links ≡ false → steps_of (place + 1) (Port port ∷ []) ≡ 0
beyond_step place port links within beyond = grind (arith, nat_tests, within, beyond)

-- the flusher's events are no port's own
flusher_own : (q t : ℕ) → PassesOver (λ (es : List Event). own q (stamped t es))
flusher_own q t = record { none = refl; acknowledged = λ n. refl; failed = refl }

module _ {L : Type 0} (number : L → ℕ) (steps : L → LinkCall → LinkAnswer → L → Type 0) (first : ℕ) (start : State) where
  -- the number of steps of a port among these
  abbrev counted : List Step → ℕ → ℕ
  counted made port = steps_of port made

  abbrev HaveRuns : List Step → List L → PortsView L → List Stamp → Type 0
  HaveRuns made links ports events = engine.HaveRuns number steps first start (counted made) links ports events

  -- a step that no port makes, and that has no events of a port, keeps the runs of all ports
  others_step : (made : List Step) (step : Step) (links : List L) (ports last : PortsView L) (events more : List Stamp) → last ≡ ports
      → ((port : ℕ) → own port more ≡ []) → ((place : ℕ) → place < length links → steps_of (place + 1) (step ∷ []) ≡ 0)
      → HaveRuns made links ports events → HaveRuns (made ++ step ∷ []) links last (events ++ more)
  others_step made step links ports last events more same none still is =
      recounted number steps first start (counted made) (counted (made ++ step ∷ [])) links last (events ++ more)
      (λ place within. omega (arith, steps_after (place + 1) made step, still place within))
      (ports_stay number steps first start (counted made) links ports last events more same none is)

  module _ {D : Type 0} (disk : D → Disk) (made : List Step) (t : ℕ) (links : List L) (old new : CoreOnDiskView D)
      (ports last : PortsView L) (events : List Stamp) (told : List Event) (core : IsCoreAfter first start events old.core)
      (are : HaveRuns made links ports events) where
    makes_of : (port : ℕ) (old new : CoreOnDiskView D) (ports last : PortsView L) (told : List Event)
        → (is : StepsThere number steps port old new ports last told)
        → MakesStep number steps port old.core new.core ports.machines last.machines is.link is.linked told
    makes_of port old new ports last told is = record {
      before = is.before;
      after = is.after;
      called = is.called;
      status = is.status;
      some = is.some;
      machine_is = is.machine_is;
      steps_as = is.steps_as;
      told_is = is.told_is;
      last_is = is.machines;
    }

    port_runs : (there : Bool) (port : ℕ) → nat_le port (length ports.links) ≡ there
        → StepsIf number steps there port old new ports last told
        → HaveRuns (made ++ Port port ∷ []) links last (events ++ stamped t told)
    port_runs true port eq is =
        recounted number steps first start (stepped port (counted made)) (counted (made ++ Port port ∷ [])) links last
        (events ++ stamped t told)
        (λ place within. omega (arith, steps_after (place + 1) made (Port port)))
        (there_runs number steps first start (counted made) t port links old.core new.core ports last is.link is.linked events told core are
        is.link_is is.links (makes_of port old new ports last told is))
    port_runs false port eq is =
        others_step made (Port port) links ports last events (stamped t told) is.1
        (λ q. ap (λ (es : List Event). own q (stamped t es)) is.2)
        (λ place within. beyond_step place port (length links) within (ap (nat_le port) (sym are.count) ∙ eq)) are

    step_runs : (step : Step) (turned : Turned) → Does disk number steps step old new ports last told turned
        → HaveRuns (made ++ step ∷ []) links last (events ++ stamped t told)
    step_runs (Client change) turned is =
        others_step made (Client change) links ports last events (stamped t told) is.1
        (λ q. ap (λ (es : List Event). own q (stamped t es)) is.2.4 ∙ submit_own q t change is.2.0) (λ place within. refl) are
    step_runs (Port port) turned is = port_runs (nat_le port (length ports.links)) port refl is.1
    step_runs Flush turned is =
        others_step made Flush links ports last events (stamped t told) is.0
        (λ q. turn_says (λ (es : List Event). own q (stamped t es)) (flusher_own q t) disk old.committed old new told turned is.1)
        (λ place within. refl) are

  module _ {D : Type 0} (disk : D → Disk) where
    all_runs : (before schedule : List Step) (waits : ℕ) (links : List L) (old new : RunView D L)
        → HasMade disk number steps schedule waits old new
        → Stands first start old.events old.master.core → HaveRuns before links old.ports old.events
        → HaveRuns (before ++ schedule) links new.ports new.events
    all_runs before [] waits links old new made stands are =
        subst (λ (ss : List Step). HaveRuns ss links new.ports new.events) (sym (append-nil before))
        (subst (λ (r : RunView D L). HaveRuns before links r.ports r.events) (sym made.1) are)
    all_runs before (step ∷ schedule) waits links old new made stands are =
        let mid = made.2 in
        let t = clock_of disk mid.master in
        let told = made.3.0 in
        subst (λ (ss : List Step). HaveRuns ss links new.ports new.events) (append_assoc before (step ∷ []) schedule)
        (all_runs (before ++ step ∷ []) schedule made.1 links mid new made.5
        (subst (λ (ss : List Stamp). Stands first start ss mid.master.core) (sym made.3.2)
        (step_stands first start disk number steps step t old.events old.master mid.master old.ports mid.ports told made.0 made.3.1 stands))
        (subst (λ (ss : List Stamp). HaveRuns (before ++ step ∷ []) links mid.ports ss) (sym made.3.2)
        (step_runs disk before t links old.master mid.master old.ports mid.ports old.events told
        (core_after first start old.events old.master.core stands) are step made.0 made.3.1)))

    -- in a schedule that was run from a fresh run, the events of each port are a run of its machine
    pub all_port_runs : (schedule : List Step) (waits : ℕ) (journal : JournalView D) (links : List L) (old new : RunView D L) → first
        ≡ journal.standing.number
        → start ≡ journal.standing.state → length links ≡ length start → IsFresh disk journal links old
        → HasMade disk number steps schedule waits old new
        → ArePortRuns number steps first start schedule links new.events new.ports.links
    all_port_runs schedule waits journal links old new number_is state_is count fresh made =
        let begins = fresh_stands first start disk journal links old number_is state_is fresh in
        runs_are number steps first start (counted schedule) links new.ports new.events count
        (all_runs [] schedule waits links old new made begins new_runs)
      where
        new_runs : HaveRuns [] links old.ports old.events
        new_runs =
            subst (λ (p : PortsView L). HaveRuns [] links p old.events) (sym fresh.ports)
            (subst (λ (ss : List Stamp). HaveRuns [] links (record { machines = new_machines (length links); links = links }) ss)
            (sym fresh.events) (new_have_runs number steps first start links))
