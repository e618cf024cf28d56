-- The events of each port, from the steps of a run, are a run of its link.
use Rattle.std.proofs.Common.{◌≡◌, refl, ◌+◌, ◌-◌, ℕ, nat_eq, nat_le, Bool, true, false, List, [], ◌∷◌, ◌++◌, length, Some, Result, Ok, Err}
use Rattle.std.proofs.Common.{slice_get, slice_set, ap, sym, ◌∙◌, subst, arith, append-nil, append_assoc}
use Rattle.std.proofs.lemmas.Bool.{eqb-true}
use Rattle.std.proofs.lemmas.List.{length-set}
use Rattle.iol_types.specs.Command.{CommandValue, command_of}
use Rattle.iol_disk.specs.Disk.{Disk}
use Rattle.iol_core.proofs.Places.{get_written, get_other}
use Rattle.iol_core.specs.declared.ticket.SubmitFault.{SubmitFault}
use Rattle.iol_journal.specs.Journals.{JournalView}
use Rattle.iol_link.specs.Link.{LinkCall, LinkAnswer}
use Rattle.iol_port.specs.Stage.{PortValue}
use Rattle.iol_core.proofs.Links.{joined, untouched}
use Rattle.iol_core.specs.Events.{Event, Stamp, stamped}
use Rattle.iol_core.specs.Links.{IsLinkRun, calls_told}
use Rattle.iol_run.proofs.FlusherTells.{PassesOver, turn_says}
use Rattle.iol_run.proofs.LinkRuns.{step_link}
use Rattle.iol_engine.proofs.Machines.{HavePlaces, elsewhere, new_places, one_some, port_stays}
use Rattle.iol_run.specs.CoreOnDisk.{CoreOnDiskView, clock_of}
use Rattle.iol_engine.specs.Ports.{PortsView}
use Rattle.iol_run.specs.Ports.{StepsThere, StepsIf}
use Rattle.iol_run.specs.Runs.{RunView}
use Rattle.iol_run.specs.Schedules.{IsFresh, AreLinkRuns}
use Rattle.iol_run.specs.Tasks.{HasMade}
use Rattle.iol_engine.specs.Submitted.{submit_told}
use Rattle.iol_run.specs.Steps.{Does}
use Rattle.iol_run.specs.declared.turn.Turned.{Turned}
use Rattle.iol_run.specs.declared.step.Step.{Step}
use Rattle.iol_run.specs.declared.step.Step.TheVariants.{Client, Port, Flush}

-- a client's command and a turn of the flusher have no events of a link
module _ (q t : ℕ) where
  submit_calls : (command : CommandValue) (answer : Result ℕ SubmitFault) → calls_told q (stamped t (submit_told command answer)) ≡ []
  submit_calls command (Ok n) = refl
  submit_calls command (Err f) = refl

  told_calls : (told : List Event) (rest : List Event) → told ≡ rest → calls_told q (stamped t rest) ≡ [] → calls_told q (stamped t told)
      ≡ []
  told_calls told rest is none = ap (λ (es : List Event). calls_told q (stamped t es)) is ∙ none

  flusher_calls : PassesOver (λ (es : List Event). calls_told q (stamped t es))
  flusher_calls = record { none = refl; acknowledged = λ n. refl; failed = refl }

module _ {L : Type 0} (connection : L → ℕ) (allows : L → LinkCall → LinkAnswer → L → Type 0) where
  -- the link at a place after these events, which are a run of it
  pub record Links (links last : List L) (more : List Stamp) (place : ℕ) (before : L) : Type 0 where
    pub after : L
    pub there : slice_get last place ≡ Some after
    pub run : IsLinkRun connection allows (place + 1) more before after

  -- the ports after these events, and a run of the link of each
  pub record GoesOn (ports last : PortsView L) (more : List Stamp) : Type 0 where
    pub count : length last.links ≡ length ports.links
    pub places : HavePlaces last.machines
    pub links : (place : ℕ) (before : L) → slice_get ports.links place ≡ Some before → Links ports.links last.links more place before

  stays_on : (ports last : PortsView L) (more : List Stamp) → last ≡ ports → HavePlaces ports.machines → ((q : ℕ) → calls_told q more ≡ [])
      → GoesOn ports last more
  stays_on ports last more same places none =
      subst (λ (p : PortsView L). GoesOn ports p more) (sym same) (record {
        count = refl;
        places = places;
        links = λ place before is.
            record { after = before; there = is; run = untouched connection allows (place + 1) more before (none (place + 1)) };
      })

  pub goes_further : (ports mid last : PortsView L) (more rest : List Stamp) → GoesOn ports mid more → GoesOn mid last rest
      → GoesOn ports last (more ++ rest)
  goes_further ports mid last more rest one two = record {
    count = two.count ∙ one.count;
    places = two.places;
    links = λ place before is.
        let first = one.links place before is in
        let second = two.links place first.after first.there in
        record {
          after = second.after;
          there = second.there;
          run = joined connection allows (place + 1) more rest before first.after second.after first.run second.run;
        };
  }

  module _ {D : Type 0} (t : ℕ) where
    -- a port makes its step
    there_goes_on : (port : ℕ) (old new : CoreOnDiskView D) (ports last : PortsView L) (told : List Event) → HavePlaces ports.machines
        → StepsThere connection allows port old new ports last told → GoesOn ports last (stamped t told)
    there_goes_on port old new ports last told places is = record {
      count = ap length is.links ∙ length-set ports.links (port - 1) is.linked;
      places = λ place machine found.
          machine_place place machine (subst (λ (ms : List PortValue). slice_get ms place ≡ Some machine) is.machines found)
          (nat_eq place (port - 1)) refl;
      links = λ place before found. link_at place before found (nat_eq is.before.port (place + 1)) refl;
    }
      where
        own : is.before.port ≡ port - 1 + 1
        own = places (port - 1) is.before is.machine_is

        machine_place : (place : ℕ) (machine : PortValue) → slice_get (slice_set ports.machines (port - 1) is.after) place ≡ Some machine
            → (same : Bool) → nat_eq place (port - 1) ≡ same → machine.port ≡ place + 1
        machine_place place machine found true eq =
            let at : place ≡ port - 1 = eqb-true place (port - 1) eq in
            ap (λ (m : PortValue). m.port)
            (one_some machine is.after (sym found
            ∙ (ap (slice_get (slice_set ports.machines (port - 1) is.after)) at
            ∙ get_written ports.machines (port - 1) is.after is.before is.machine_is)))
            ∙ (port_stays connection allows is.before is.after is.link is.linked old.core new.core is.called is.status is.steps_as
            ∙ (own ∙ omega (arith, at)))
        machine_place place machine found false eq =
            places place machine (sym (get_other ports.machines (port - 1) place is.after (elsewhere place (port - 1) eq)) ∙ found)

        link_at : (place : ℕ) (before : L) → slice_get ports.links place ≡ Some before → (same : Bool) → nat_eq is.before.port (place + 1)
            ≡ same
            → Links ports.links last.links (stamped t told) place before
        link_at place before found true eq =
            let at : place ≡ port - 1 = omega (arith, eqb-true is.before.port (place + 1) eq, own) in
            let first : is.link ≡ before = one_some is.link before (sym is.link_is ∙ (ap (slice_get ports.links) (sym at) ∙ found)) in
            record {
              after = is.linked;
              there =
                  ap (λ (ls : List L). slice_get ls place) is.links
                  ∙ (ap (slice_get (slice_set ports.links (port - 1) is.linked)) at
                  ∙ get_written ports.links (port - 1) is.linked is.link is.link_is);
              run =
                  subst (λ (l : L). IsLinkRun connection allows (place + 1) (stamped t told) l is.linked) first
                  (subst (λ (es : List Event). IsLinkRun connection allows (place + 1) (stamped t es) is.link is.linked) (sym is.told_is)
                  (step_link connection allows (place + 1) t true is.before is.after eq is.link is.linked old.core new.core is.called
                  is.status is.steps_as));
            }
        link_at place before found false eq = record {
          after = before;
          there =
              ap (λ (ls : List L). slice_get ls place) is.links
              ∙ (get_other ports.links (port - 1) place is.linked (λ at. elsewhere is.before.port (place + 1) eq (omega (arith, own, at)))
              ∙ found);
          run = untouched connection allows (place + 1) (stamped t told) before
              (ap (λ (es : List Event). calls_told (place + 1) (stamped t es)) is.told_is
              ∙ step_link connection allows (place + 1) t false is.before is.after eq is.link is.linked old.core new.core is.called
              is.status is.steps_as);
        }

    port_goes_on : (there : Bool) (port : ℕ) (old new : CoreOnDiskView D) (ports last : PortsView L) (told : List Event)
        → HavePlaces ports.machines
        → StepsIf connection allows there port old new ports last told → GoesOn ports last (stamped t told)
    port_goes_on true port old new ports last told places is = there_goes_on port old new ports last told places is
    port_goes_on false port old new ports last told places is =
        stays_on ports last (stamped t told) is.1 places (λ q. told_calls q t told [] is.2 refl)

  module _ {D : Type 0} (disk : D → Disk) where
    step_goes_on : (t : ℕ) (step : Step) (old new : CoreOnDiskView D) (ports last : PortsView L) (told : List Event) (turned : Turned)
        → HavePlaces ports.machines → Does disk connection allows step old new ports last told turned → GoesOn ports last (stamped t told)
    step_goes_on t (Client change) old new ports last told turned places is =
        stays_on ports last (stamped t told) is.1 places (λ q. told_calls q t told _ is.2.4 (submit_calls q t (command_of change) is.2.0))
    step_goes_on t (Port port) old new ports last told turned places is =
        port_goes_on t (nat_le port (length ports.links)) port old new ports last told places is.1
    step_goes_on t Flush old new ports last told turned places is =
        stays_on ports last (stamped t told) is.0 places (λ q.
        turn_says (λ (es : List Event). calls_told q (stamped t es)) (flusher_calls q t) disk old.committed old new told turned is.1)

    -- all events of a run since a moment
    record HasTold (old new : RunView D L) : Type 0 where
      more : List Stamp
      events : new.events ≡ old.events ++ more
      on : GoesOn old.ports new.ports more

    steps_go_on : (steps : List Step) (waits : ℕ) (old new : RunView D L) → HavePlaces old.ports.machines
        → HasMade disk connection allows steps waits old new
        → HasTold old new
    steps_go_on [] waits old new places made = record {
      more = [];
      events = ap (λ (r : RunView D L). r.events) made.1 ∙ sym (append-nil old.events);
      on = stays_on old.ports new.ports [] (ap (λ (r : RunView D L). r.ports) made.1) places (λ q. refl);
    }
    steps_go_on (step ∷ steps) waits old new places made =
        let mid = made.2 in
        let t = clock_of disk mid.master in
        let one = step_goes_on t step old.master mid.master old.ports mid.ports made.3.0 made.0 places made.3.1 in
        let rest = steps_go_on steps made.1 mid new one.places made.5 in
        record {
          more = stamped t made.3.0 ++ rest.more;
          events =
              rest.events
              ∙ (ap (λ (ss : List Stamp). ss ++ rest.more) made.3.2 ∙ append_assoc old.events (stamped t made.3.0) rest.more);
          on = goes_further old.ports mid.ports new.ports (stamped t made.3.0) rest.more one rest.on;
        }

    -- in a schedule that was run from a fresh run, the events of each port are a run of its link
    pub all_link_runs : (steps : List Step) (waits : ℕ) (journal : JournalView D) (links : List L) (old new : RunView D L)
        → IsFresh disk journal links old
        → HasMade disk connection allows steps waits old new → AreLinkRuns connection allows links new.events new.ports.links
    all_link_runs steps waits journal links old new fresh made =
        let begun : HavePlaces old.ports.machines =
        subst (λ (p : PortsView L). HavePlaces p.machines) (sym fresh.ports) (new_places (length links)) in
        let told = steps_go_on steps waits old new begun made in
        let same : old.ports.links ≡ links = ap (λ (p : PortsView L). p.links) fresh.ports in
        record {
          count = told.on.count ∙ ap length same;
          runs = λ place before after first last.
              let here = told.on.links place before (ap (λ (ls : List L). slice_get ls place) same ∙ first) in
              let is : here.after ≡ after = one_some here.after after (sym here.there ∙ last) in
              subst (λ (ss : List Stamp). IsLinkRun connection allows (place + 1) ss before after)
              (sym (told.events ∙ ap (λ (ss : List Stamp). ss ++ told.more) fresh.events))
              (subst (λ (l : L). IsLinkRun connection allows (place + 1) told.more before l) is here.run);
        }
