-- What a run reports is lawful.
use Rattle.std.proofs.Common.{◌≡◌, ◌⊎◌, inl, inr, ◌<◌, ◌+◌, refl, ℕ, zero, suc, Bool, true, false, nat_lt, List, [], ◌∷◌, length}
use Rattle.std.proofs.Common.{Some, slice_get, take, sym, ap, ◌∙◌, subst, arith}
use Rattle.std.proofs.lemmas.Bool.Decides.{nat_tests}
use Rattle.iol_types.specs.Command.{Configure, Clear, Store, Rollback}
use Rattle.iol_types.specs.State.{State, Port, port_numbered}
use Rattle.iol_link.specs.Link.{LinkCall, LinkAnswer}
use Rattle.iol_core.specs.Events as trace
use Rattle.iol_core.specs.Events.{Event, Accepted, Refused, Page, Lost, Attended, Changed, Acknowledged, DiskFailed, Stamp}
use Rattle.iol_core.specs.Words.{accepted}
use Rattle.iol_engine.specs.Acknowledged.{AcksRise}
use Rattle.iol_engine.specs.PortRuns.{AreRunsOfPorts, HasPortRun}
use Rattle.iol_headline.proofs.Lawful.{IsLawfulAt, durable_ends, unsent_lawful}
use Rattle.iol_headline.proofs.Places.{everywhere}
use Rattle.iol_headline.proofs.Revisions.{at_place}
use Rattle.iol_headline.proofs.Running.{OwnLaw, none_own, run_told}
use Rattle.iol_headline.proofs.StoredSets.{sets_stored}
use Rattle.iol_headline.proofs.Talks.{at_own}
use Rattle.iol_headline.specs.Laws.{IsLawful}
use Rattle.iol_headline.specs.Places.{Everywhere}

-- a place of a list has an element
there_is : {A : Type 0} (xs : List A) (i : ℕ) → i < length xs → (x : A) × (slice_get xs i ≡ Some x)
there_is [] i within = absurd (omega (arith, within))
there_is (x ∷ xs) zero within = (x, refl)
there_is (x ∷ xs) (suc i) within = there_is xs i (omega (arith, within))

-- a port is there, or it is none
placed : (count port : ℕ) → ((place : ℕ) × (port ≡ place + 1) × (place < count)) ⊎ ((port ≡ 0) ⊎ (count < port))
placed count zero = inr (inl refl)
placed count (suc place) = by (nat_lt place count) refl
  where
    by : (test : Bool) → nat_lt place count ≡ test
        → ((p : ℕ) × (suc place ≡ p + 1) × (p < count)) ⊎ ((suc place ≡ 0) ⊎ (count < suc place))
    by true within = inl (place, omega arith, grind (arith, nat_tests, within))
    by false beyond = inr (inr (grind (arith, nat_tests, beyond)))

module _ (first : ℕ) (start : State) where
  -- an event is lawful if it is lawful as one of a port's own, whichever the port
  owned : (before : List Stamp) (e : Event) → ((port : ℕ) → OwnLaw first start port before e) → IsLawfulAt first start before e
  owned before (Accepted number (Configure port config)) law =
      unsent_lawful first start before (Accepted number (Configure port config)) (λ p c r sent. sent) tt tt tt tt
  owned before (Accepted number (Clear port)) law =
      unsent_lawful first start before (Accepted number (Clear port)) (λ p c r sent. sent) tt tt tt tt
  owned before (Accepted number (Rollback port)) law =
      unsent_lawful first start before (Accepted number (Rollback port)) (λ p c r sent. sent) tt tt tt tt
  owned before (Accepted number (Store port revision set)) law = law port (at_own port (Accepted number (Store port revision set)))
  owned before (Refused refusal) law = unsent_lawful first start before (Refused refusal) (λ p c r sent. sent) tt tt tt tt
  owned before (Page port connection octets) law = law port (at_own port (Page port connection octets))
  owned before (trace.Exchange port connection request answer) law = law port (at_own port (trace.Exchange port connection request answer))
  owned before (Lost port connection request) law = law port (at_own port (Lost port connection request))
  owned before (Attended port work) law = law port (at_own port (Attended port work))
  owned before (Changed port status) law = law port (at_own port (Changed port status))
  owned before (Acknowledged number) law = unsent_lawful first start before (Acknowledged number) (λ p c r sent. sent) tt tt tt tt
  owned before DiskFailed law = unsent_lawful first start before DiskFailed (λ p c r sent. sent) tt tt tt tt

  -- a port of the state is there
  port_there : (place : ℕ) → place < length start → (p : Port) × (port_numbered start (place + 1) ≡ Some p)
  port_there place within =
      let port = there_is start place within in
      (port.0, at_place start (place + 1) (omega arith) ∙ (ap (slice_get start) (omega arith) ∙ port.1))

  module _ {L : Type 0} (number : L → ℕ) (steps : L → LinkCall → LinkAnswer → L → Type 0) where
    -- what is reported of a port that has a link
    ported : (place made : ℕ) (begun link : L) (events : List Stamp) → place < length start
        → HasPortRun number steps first start (place + 1) made begun link events → Everywhere (OwnLaw first start (place + 1)) events
    ported place made begun link events within is =
        everywhere (OwnLaw first start (place + 1)) events
        (run_told first start (place + 1) number steps (port_there place within) begun made is.machine link events is.run).each

    -- each event of the trace
    all_lawful : (counted : ℕ → ℕ) (links : List L) (events : List Stamp) (last : List L) → length last ≡ length links
        → AreRunsOfPorts number steps first start counted links events last → Everywhere (IsLawfulAt first start) events
    all_lawful counted links events last count are before behind e split =
        owned before e.event (λ port. at port (placed (length links) port))
      where
        at : (port : ℕ) → ((place : ℕ) × (port ≡ place + 1) × (place < length links)) ⊎ ((port ≡ 0) ⊎ (length links < port))
            → OwnLaw first start port before e.event
        at port (inr none) =
            everywhere (OwnLaw first start port) events (none_own first start port [] events (are.others port none)) before behind e split
        at port (inl there) =
            let begun = there_is links there.0 there.2 in
            let link = there_is last there.0 (omega (arith, there.2, count)) in
            subst (λ (p : ℕ). OwnLaw first start p before e.event) (sym there.1)
            (ported there.0 (counted (there.0 + 1)) begun.0 link.0 events (omega (arith, there.2, are.count)) (are.runs there.0
            begun.0 link.0 begun.1 link.1)
            before behind e split)

    -- the whole trace
    pub lawful : (counted : ℕ → ℕ) (links : List L) (events : List Stamp) (last : List L) → length last ≡ length links
        → AreRunsOfPorts number steps first start counted links events last → AcksRise first events → IsLawful first start events
    lawful counted links events last count are rise = record {
      whole_sets = λ before behind e split. (each before behind e split).whole;
      stored_sets = λ count. sets_stored (take count (accepted events)) start;
      durable_then_end = λ before behind e split.
          durable_ends first before (e ∷ behind) e.event (subst (λ (es : List Stamp). AcksRise first es) split rise)
          (each before behind e split).ends;
      downloads = λ before behind e split. (each before behind e split).downloads;
      commands = λ before behind e split. (each before behind e split).commands;
      works = λ before behind e split. (each before behind e split).works;
      decided = λ before behind e split. (each before behind e split).decided;
      settled = λ before behind e split. (each before behind e split).settled;
    }
      where
        each : Everywhere (IsLawfulAt first start) events
        each = all_lawful counted links events last count are
