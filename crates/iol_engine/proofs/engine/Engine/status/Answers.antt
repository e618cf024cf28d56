use Rattle.std.proofs.Common.{◌≡◌, ◌<◌, ◌≤◌, ◌-◌, ℕ, zero, suc, List, [], ◌∷◌, Vec, length, Some, None}
use Rattle.std.proofs.Common.{slice_get, get_or, refl, ap, sym, ◌∙◌, arith}
use Rattle.std.proofs.lemmas.Option.{slice_get-get_or}
use Rattle.std.specs.declared.alloc.Global.{Global}
use Rattle.iol_port.specs.Stage.{PortValue}
use Rattle.iol_engine.specs.Engine.{EngineView}
use Rattle.iol_engine.specs.HandedSteps.{status_in}
use Rattle.iol_engine.proofs.engine.Engine.status.Goals as goal

beyond : {A : Type 0} (xs : List A) (place : ℕ) → length xs ≤ place → slice_get xs place ≡ None
beyond [] place above = refl
beyond (x ∷ xs) zero above = absurd (omega (arith, above))
beyond (x ∷ xs) (suc n) above = beyond xs n (omega (arith, above))

pub returns-in-Some : goal.returns-in-Some
returns-in-Some g c =
    let ms = c.self.inside.machines.value.items in
    let place = c.place.result in
    let same : c.deref-2.result.now ≡ ms = c.deref-2.ensures.value ∙ ap (λ (v : Vec PortValue Global). v.items) c.deref.ensures in
    let m = c.in-Some.machine.now in
    let at : place ≡ c.args.port - 1 = omega (arith, c.place.ensures.place) in
    let within : place < length ms =
    omega (arith, c.in-Some.ensures.lookup.3.0, ap (λ (l : List PortValue). length l) same) in
    let there : slice_get c.args.self.now.machines (c.args.port - 1) ≡ Some m =
    ap (slice_get c.args.self.now.machines) (sym at)
    ∙ (ap (λ (e : EngineView). slice_get e.machines place) (sym c.self.view_is)
    ∙ (slice_get-get_or ms place m within
    ∙ ap (λ (v : PortValue). Some v)
    (ap (λ (l : List PortValue). get_or l place m) (sym same) ∙ sym c.in-Some.ensures.lookup.1))) in
    ap (λ s. Some s) c.status.ensures ∙ sym (ap status_in there)

pub returns-in-None : goal.returns-in-None
returns-in-None g c =
    let ms = c.self.inside.machines.value.items in
    let place = c.place.result in
    let same : c.deref-2.result.now ≡ ms = c.deref-2.ensures.value ∙ ap (λ (v : Vec PortValue Global). v.items) c.deref.ensures in
    let at : place ≡ c.args.port - 1 = omega (arith, c.place.ensures.place) in
    let above : length ms ≤ place =
    omega (arith, c.in-None.ensures.lookup.3, ap (λ (l : List PortValue). length l) same) in
    let none : slice_get c.args.self.now.machines (c.args.port - 1) ≡ None =
    ap (slice_get c.args.self.now.machines) (sym at)
    ∙ (ap (λ (e : EngineView). slice_get e.machines place) (sym c.self.view_is) ∙ beyond ms place above) in
    sym (ap status_in none)
