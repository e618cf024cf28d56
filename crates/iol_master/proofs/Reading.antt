-- The view that a client reads, and the reasons why it reads nothing.
use Rattle.std.proofs.Common.{◌≡◌, refl, ◌≤◌, ℕ, ◌+◌, ◌-◌, zero, suc, nat_le, Bool, true, false, if◌then◌else◌, List, [], ◌∷◌, length, take}
use Rattle.std.proofs.Common.{Option, Some, None, true≢false, IsNone, IsSome, IfSome, Result, Ok, Err, IfOk, OnErr, OnOk, slice_get, sym}
use Rattle.std.proofs.Common.{ap, ◌∙◌, subst, arith}
use Rattle.std.specs.Option.{option_map}
use mathlib.Core.List.{IsPrefix}
use Rattle.iol_types.proofs.StateLemmas.{length-after}
use Rattle.iol_types.specs.Command.{CommandValue}
use Rattle.iol_types.specs.State.{Port, State, port_numbered}
use Rattle.iol_front.specs.Fronts.{Start}
use Rattle.iol_core.proofs.Standing.{stands_later, take_prefix}
use Rattle.iol_core.specs.Core.{CoreView}
use Rattle.iol_core.specs.Downloads.{durable_set, stored_at}
use Rattle.iol_core.specs.Ports.{view_at}
use Rattle.iol_core.specs.Standing.{Stands, state_at}
use Rattle.iol_core.specs.declared.port.View.{View}
use Rattle.iol_headline.specs.Lists.{IsLawfulList}
use Rattle.iol_master.specs.Faults.{IsUnknown}

-- a place that is not in a list is not in a list of the same length
not_there : {A : Type 0} (one two : List A) (i : ℕ) → length two ≡ length one → slice_get one i ≡ None → slice_get two i ≡ None
not_there one [] i same is = refl
not_there [] (y ∷ two) i same is = absurd (omega (arith, same))
not_there (x ∷ one) (y ∷ two) zero same is = absurd cc
not_there (x ∷ one) (y ∷ two) (suc i) same is = not_there one two i (omega (arith, same)) is

lacks_place : (there : Bool) (one two : State) (place : ℕ) → length two ≡ length one
    → (if there then slice_get one place else None) ≡ None → (if there then slice_get two place else None) ≡ None
lacks_place true one two place same is = not_there one two place same is
lacks_place false one two place same is = refl

-- a port that the state lacks after some commands, it lacked before
unknown_before : (start : Start) (seen : List CommandValue) (number port : ℕ) (state : State) → Stands start seen number state
    → IsUnknown state port → IsUnknown start.state port
unknown_before start seen number port state stands is =
    lacks_place (nat_le 1 port) state start.state (port - 1)
    (sym (ap length stands.state ∙ length-after start.state (take (number - start.number) seen))) is

-- a port that the state lacked before, it lacks after some commands
unknown_later : (start : Start) (seen : List CommandValue) (number port : ℕ) (state : State) → Stands start seen number state
    → IsUnknown start.state port → IsUnknown state port
unknown_later start seen number port state stands is =
    lacks_place (nat_le 1 port) start.state state (port - 1)
    (ap length stands.state ∙ length-after start.state (take (number - start.number) seen)) is

-- the port in a view is the port after the client's own list
pub view_later : (start : Start) (core : CoreView) (later : List CommandValue) (port : ℕ) (p : Port)
    → Stands start core.seen core.number core.durable → IsPrefix core.seen later → port_numbered core.durable port ≡ Some p
    → (core.number ≤ start.number + length later) × (port_numbered (state_at start later core.number) port ≡ Some p)
view_later start core later port p stands met is =
    let now = stands_later start core.seen later core.number core.durable stands met in
    (now.within, ap (λ (s : State). port_numbered s port) (sym now.state) ∙ is)

-- a view has this number, and a port that exists
some_view : (found : Option Port) (number : ℕ) (view : View)
    → Some view ≡ option_map (λ (p : Port). record { port = p; number = number }) found → (view.number ≡ number) × (found ≡ Some view.port)
some_view None number view is = absurd cc
some_view (Some p) number view is =
    let same : view ≡ record { port = p; number = number } = cc in
    (ap (λ (v : View). v.number) same, ap (λ (v : View). Some v.port) (sym same))

-- a view is the state of a port after commands that the pass has then seen
pub views : {E : Type 0} (start : Start) (core new : CoreView) (later : List CommandValue) (port : ℕ) (answer : Result (Option View) E)
    → IfOk answer (λ (v : Option View). v ≡ view_at core port) → new ≡ record core { seen = new.seen }
    → Stands start new.seen new.number new.durable → OnOk answer (IsPrefix new.seen later)
    → IfOk answer (λ (found : Option View). IfSome found (λ (view : View). (view.number ≤ start.number + length later)
    × (port_numbered (state_at start later view.number) port ≡ Some view.port)))
views start core new later port (Err why) is others stands met = tt
views start core new later port (Ok None) is others stands met = tt
views start core new later port (Ok (Some view)) is others stands met =
    let same = some_view (port_numbered core.durable port) core.number view is in
    let number : new.number ≡ view.number = ap (λ (c : CoreView). c.number) others ∙ sym same.0 in
    subst (λ (n : ℕ). (n ≤ start.number + length later) × (port_numbered (state_at start later n) port ≡ Some view.port)) number
    (view_later start new later port view.port stands met (ap (λ (c : CoreView). port_numbered c.durable port) others ∙ same.1))

-- of two claims about a view each holds alone
pub first_of : {E : Type 0} (P Q : View → Type 0) (answer : Result (Option View) E)
    → IfOk answer (λ (found : Option View). IfSome found (λ (view : View). P view × Q view))
    → IfOk answer (λ (found : Option View). IfSome found P)
first_of P Q (Err why) both = tt
first_of P Q (Ok None) both = tt
first_of P Q (Ok (Some view)) both = both.0

pub second_of : {E : Type 0} (P Q : View → Type 0) (answer : Result (Option View) E)
    → IfOk answer (λ (found : Option View). IfSome found (λ (view : View). P view × Q view))
    → IfOk answer (λ (found : Option View). IfSome found Q)
second_of P Q (Err why) both = tt
second_of P Q (Ok None) both = tt
second_of P Q (Ok (Some view)) both = both.1

-- a port without a view does not exist
no_view : (found : Option Port) (number : ℕ) → IsNone {T = View} (option_map (λ (p : Port). record { port = p; number = number }) found)
    → found ≡ None
no_view None number none = refl
no_view (Some p) number none = let wrong : true ≡ false = none in absurd cc

pub no_views : {E : Type 0} (start : Start) (core new : CoreView) (port : ℕ) (answer : Result (Option View) E)
    → IfOk answer (λ (v : Option View). v ≡ view_at core port) → new ≡ record core { seen = new.seen }
    → Stands start new.seen new.number new.durable → IfOk answer (λ (v : Option View). IsNone v → IsUnknown start.state port)
no_views start core new port (Err why) is others stands = tt
no_views start core new port (Ok found) is others stands = λ none.
    let gone : port_numbered core.durable port ≡ None =
    no_view (port_numbered core.durable port) core.number (subst (λ (v : Option View). IsNone v) is none) in
    unknown_before start new.seen new.number port new.durable stands
    (ap (λ (c : CoreView). port_numbered c.durable port) others ∙ gone)

-- memory runs out only for the set of a port that the master has
pub refused_known : {A E : Type 0} (start : Start) (core new : CoreView) (port : ℕ) (answer : Result A E)
    → OnErr answer (IsSome (durable_set core port)) → new ≡ record core { seen = new.seen }
    → Stands start new.seen new.number new.durable → OnErr answer (IsUnknown start.state port → ⊥)
refused_known start core new port (Ok a) some others stands = tt
refused_known start core new port (Err why) some others stands = λ unknown.
    let later : IsUnknown new.durable port = unknown_later start new.seen new.number port new.durable stands unknown in
    let durable : new.durable ≡ core.durable = ap (λ (c : CoreView). c.durable) others in
    let none : IsUnknown core.durable port = subst (λ (s : State). IsUnknown s port) durable later in
    let wrong : IsSome (stored_at None) = subst (λ (p : Option Port). IsSome (stored_at p)) none some in
    absurd (true≢false (sym wrong))

-- a view is the state after a lawful list, which the client has seen
pub lawful_view : {E : Type 0} (start : Start) (core new : CoreView) (later : List CommandValue) (port : ℕ)
    (answer : Result (Option View) E) → IfOk answer (λ (v : Option View). v ≡ view_at core port)
    → new ≡ record core { seen = new.seen } → Stands start new.seen new.number new.durable → OnOk answer (IsPrefix new.seen later)
    → IsLawfulList start new.number (take (new.number - start.number) new.seen)
    → IfOk answer (λ (found : Option View). IfSome found (λ (view : View).
    IsLawfulList start view.number (take (view.number - start.number) later)))
lawful_view start core new later port (Err why) is others stands met list = tt
lawful_view start core new later port (Ok None) is others stands met list = tt
lawful_view start core new later port (Ok (Some view)) is others stands met list =
    let same = some_view (port_numbered core.durable port) core.number view is in
    let number : new.number ≡ view.number = ap (λ (c : CoreView). c.number) others ∙ sym same.0 in
    let all : take (new.number - start.number) new.seen ≡ take (new.number - start.number) later =
    sym (take_prefix new.seen later (new.number - start.number) met (omega (arith, stands.within))) in
    subst (λ (n : ℕ). IsLawfulList start n (take (n - start.number) later)) number
    (subst (λ (cs : List CommandValue). IsLawfulList start new.number cs) all list)
