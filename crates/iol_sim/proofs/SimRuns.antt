-- The facts that a step of a simulated link keeps, and a run.
use Rattle.std.proofs.Common.{◌≡◌, ℕ, ◌≤◌, zero, suc, true, false, cond, List, [], ◌∷◌, Option, Some, None, refl, ap, sym, ◌∙◌, subst}
use Rattle.std.proofs.Common.{arith}
use Rattle.std.specs.Prelude.{◌==◌, slice_get, slice_set}
use Rattle.iol_link.specs.Link.{LinkCall, LinkAnswer, TakeEvent, ReadPage, Exchange, Answered, Run, last_connection}
use Rattle.iol_sim.specs.SimLink.{VisitValue, Sim, SimStep, EventStep, PageStep, ExchangeStep, present, answering, with_present, left_by}
use Rattle.iol_sim.specs.SimLink.{after_loss}

-- a write at another place leaves the item at this place unchanged
set-others : (visits : List VisitValue) (place k : ℕ) (visit : VisitValue) → (k ≡ place → ⊥)
    → slice_get (slice_set visits place visit) k ≡ slice_get visits k
set-others [] place k visit apart = refl
set-others (other ∷ visits) zero zero visit apart = absurd (apart refl)
set-others (other ∷ visits) zero (suc k) visit apart = refl
set-others (other ∷ visits) (suc place) zero visit apart = refl
set-others (other ∷ visits) (suc place) (suc k) visit apart = set-others visits place k visit (λ same. apart (ap suc same))

-- the facts after a step: the connection does not fall; while it stays the same, so does the place;
-- and the visits at other places stay the same
pub record Left (old new : Sim) : Type 0 where
  pub rises : old.connection ≤ new.connection
  pub stays : new.connection ≡ old.connection → new.place ≡ old.place
  pub others : (k : ℕ) → (k ≡ old.place → ⊥) → slice_get new.visits k ≡ slice_get old.visits k

unchanged : (sim : Sim) → Left sim sim
unchanged sim = record { rises = omega arith; stays = λ _. refl; others = λ k apart. refl }

changed : (sim : Sim) (visit : VisitValue) → Left sim (with_present sim visit)
changed sim visit = record {
  rises = omega arith;
  stays = λ _. refl;
  others = λ k apart. set-others sim.visits sim.place k visit apart;
}

left : (sim : Sim) (found : Option VisitValue) → Left sim (left_by sim found)
left sim None = record {
  rises = omega arith;
  stays = λ _. refl;
  others = λ k apart. refl;
}
left sim (Some visit) = record {
  rises = omega arith;
  stays = λ same. absurd (omega (arith, same));
  others = λ k apart. set-others sim.visits sim.place k _ apart;
}

lost : (sim : Sim) → Left sim (after_loss sim)
lost sim =
    elim (sim.connection == last_connection) as (λ last. Left sim (cond last sim (left_by sim (slice_get sim.visits sim.place)))) [
      | true ↦ unchanged sim
      | false ↦ left sim (slice_get sim.visits sim.place)
    ]

event-left : (old new : Sim) (found : Option VisitValue) (answer : LinkAnswer) → EventStep old found answer new → Left old new
event-left old new None answer step = subst (Left old) (sym step.1) (unchanged old)
event-left old new (Some visit) answer step = subst (Left old) (sym step.1) (changed old _)

page-left : (old new : Sim) (found : Option VisitValue) (answer : LinkAnswer) → PageStep old found answer new → Left old new
page-left old new None answer step = subst (Left old) (sym step.1) (lost old)
page-left old new (Some visit) answer step = subst (Left old) (sym step.1) (changed old _)

exchange-left : (old new : Sim) (request : List ℕ) (found : Option VisitValue) (answer : LinkAnswer)
    → ExchangeStep old request found answer new → Left old new
exchange-left old new request None answer step = subst (Left old) (sym step.1) (lost old)
exchange-left old new request (Some visit) answer step = subst (Left old) (sym step.4) (changed old _)

-- these facts hold after each step
pub step-left : (old new : Sim) (call : LinkCall) (answer : LinkAnswer) → SimStep old call answer new → Left old new
step-left old new TakeEvent answer step = event-left old new (present old) answer step
step-left old new ReadPage answer step = page-left old new (answering old) answer step
step-left old new (Exchange request) answer step = exchange-left old new request (answering old) answer step

abbrev Runs : Sim → List Answered → Sim → Type 0
Runs = Run (λ sim. sim.connection) SimStep

run-rises : (first last : Sim) (made : List Answered) → Runs first made last → first.connection ≤ last.connection
run-rises first last [] run = omega (arith, ap (λ (sim : Sim). sim.connection) run)
run-rises first last (call ∷ made) run =
    omega (arith, (step-left first run.0 call.call call.answer run.2).rises, run-rises run.0 last made run.3)

-- a run that ends on the connection on which it began ends at the same place
pub run-stays : (first last : Sim) (made : List Answered) → Runs first made last → last.connection ≡ first.connection
    → last.place ≡ first.place
run-stays first last [] run same = ap (λ (sim : Sim). sim.place) (sym run)
run-stays first last (call ∷ made) run same =
    let step = step-left first run.0 call.call call.answer run.2 in
    let late = run-rises run.0 last made run.3 in
    let early : run.0.connection ≡ first.connection = omega (arith, step.rises, late, same) in
    let then : last.connection ≡ run.0.connection = omega (arith, early, same) in
    run-stays run.0 last made run.3 then ∙ step.stays early
