-- Steps of a simulated link.
use Rattle.std.proofs.Common.{◌≡◌, ℕ, Bool, true, false, cond, List, Option, Some, None, get_or, refl, ap, sym, ◌∙◌, subst, is_some}
use Rattle.std.specs.Prelude.{◌==◌, slice_get, option_and_then}
use Rattle.std.proofs.lemmas.Option.{get_or_from_slice_get}
use Rattle.iol_link.specs.Link.{ReadPage, Exchange, Octets, last_connection}
use Rattle.iol_sim.specs.Device.{Device, Answers, page_of}
use Rattle.iol_sim.specs.SimLink.{VisitValue, Sim, SimStep, PageStep, ExchangeStep, answering, has_answer, with_present, after_answer}

-- the visit that answers is the one at the place of the link
pub answering-is : (sim : Sim) (visit : VisitValue) → is_some (answering sim) ≡ true → visit ≡ get_or sim.visits sim.place visit
    → answering sim ≡ Some visit
answering-is sim visit some at = by (sim.connection == last_connection) (slice_get sim.visits sim.place) refl some
  where
    pick : (test : Bool) (other : VisitValue) → other ≡ visit → is_some (cond test (Some other) None) ≡ true
        → cond test (Some other) None ≡ Some visit
    pick true other same some = ap Some same
    pick false other same some = cc

    by : (last : Bool) (found : Option VisitValue) → slice_get sim.visits sim.place ≡ found
        → is_some (option_and_then (λ visit. cond (has_answer visit) (Some visit) None) (cond last None found)) ≡ true
        → option_and_then (λ visit. cond (has_answer visit) (Some visit) None) (cond last None found) ≡ Some visit
    by true found is some = cc
    by false None is some = cc
    by false (Some other) is some =
        pick (has_answer other) other (sym (get_or_from_slice_get sim.visits sim.place other visit is) ∙ sym at) some

-- the step when a page is read
pub page-step : (old new : Sim) (visit : VisitValue) (page : List ℕ) → answering old ≡ Some visit → page ≡ page_of visit.device
    → new ≡ with_present old (after_answer visit visit.device) → SimStep old ReadPage (Octets page) new
page-step old new visit page is read stepped =
    subst (λ (found : Option VisitValue). PageStep old found (Octets page) new) (sym is) (ap Octets read, stepped)

-- the step when a request is answered
pub exchange-step : (old new : Sim) (visit : VisitValue) (request octets : List ℕ) (device : Device) → answering old ≡ Some visit
    → Answers visit.device request octets device → new ≡ with_present old (after_answer visit device)
    → SimStep old (Exchange request) (Octets octets) new
exchange-step old new visit request octets device is answered stepped =
    subst (λ (found : Option VisitValue). ExchangeStep old request found (Octets octets) new)
    (sym is) (octets, device, answered, refl, stepped)
