use Rattle.std.proofs.Common.{◌≡◌, ◌≤◌, refl, ℕ, List, [], ◌∷◌, ◌++◌, ap, sym, ◌∙◌, arith, append_assoc}
use Rattle.iol_types.specs.Command.{Store}
use Rattle.iol_core.specs.Events.{Event, Accepted, Stamp, stamped}
use Rattle.iol_headline.proofs.ExampleTalks.{ends_upload}
use Rattle.iol_headline.proofs.OnePlace.{one_in}
use Rattle.iol_headline.proofs.examples.an_early_end_is_refused.Goals as goal
use Rattle.iol_headline.specs.DurableEnds.{IsStored}
use Rattle.iol_headline.specs.Examples.{filed}

-- the numbers of the sets that were accepted
abbrev set_in : Event → List ℕ
set_in (Accepted number (Store port revision set)) = number ∷ []
set_in e = []

abbrev sets : List Stamp → List ℕ
sets [] = []
sets (e ∷ events) = set_in e.event ++ sets events

sets-append : (events more : List Stamp) → sets (events ++ more) ≡ sets events ++ sets more
sets-append [] more = refl
sets-append (e ∷ events) more =
    ap (λ (ns : List ℕ). set_in e.event ++ ns) (sets-append events more) ∙ sym (append_assoc (set_in e.event) (sets events) (sets more))

refused : (number : ℕ) → IsStored 1 0 number (stamped 7 filed) → number ≤ 1 → ⊥
refused number is few =
    let all = ap sets is.split
    ∙ sets-append is.early (record { event = Accepted number (Store 1 is.revision is.set); clock = is.clock } ∷ is.late) in
    let second : 2 ≡ number = one_in (sets is.early) (sets is.late) 2 number all in
    omega (arith, second, few)

pub returns : goal.returns
returns c law = let end = law 1 0 (refl, refl, ends_upload) in refused end.0 end.1 end.2
