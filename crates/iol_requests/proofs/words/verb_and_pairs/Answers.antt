use Rattle.std.proofs.Common.{◌≡◌, ◌≤◌, ◌+◌, ◌-◌, ℕ, Bool, true, false, cond, List, length, take, drop, Option, Some, None, refl, sym, ap}
use Rattle.std.proofs.Common.{◌∙◌, arith, nat_lt}
use Rattle.std.proofs.lemmas.Bool.Decides.{nat_tests}
use Rattle.std.proofs.lemmas.List.{take_all, drop_all, length-drop}
use Rattle.std.specs.List.{position_or_len}
use Rattle.std.specs.Prelude.{position}
use Rattle.iol_requests.specs.Words.{is_blank}
use Rattle.iol_requests.proofs.words.verb_and_pairs.Goals as goal

-- the place that was found is that of the first blank
found_at : (b : Bool) (here place : ℕ) → cond b (Some here) None ≡ Some place → place ≡ here
found_at true here place found = cc
found_at false here place found = absurd (cc)

-- if no place was found, the test for one has failed
found_none : (b : Bool) (here : ℕ) → cond b (Some here) None ≡ None → b ≡ false
found_none true here found = absurd (cc)
found_none false here found = refl

is_long : (a b : ℕ) → nat_lt a b ≡ false → b ≤ a
is_long a b not = grind (arith, nat_tests)

at_place : (text : List ℕ) (place : ℕ) → position is_blank text ≡ Some place → place ≡ position_or_len is_blank text
at_place text place found = found_at _ _ place found

after_all : (text : List ℕ) → position is_blank text ≡ None → length text ≤ position_or_len is_blank text
after_all text none = is_long _ _ (found_none _ _ none)

pub returns-in-Some-clause-verb : goal.returns-in-Some-clause-verb
returns-in-Some-clause-verb c =
    let text = c.args.text.now in
    let found : position is_blank text ≡ Some c.in-Some.place = cc in
    ap (λ (n : ℕ). take n text) (at_place text c.in-Some.place found)

pub returns-in-Some-clause-pairs : goal.returns-in-Some-clause-pairs
returns-in-Some-clause-pairs c =
    let text = c.args.text.now in
    let place = c.in-Some.place in
    let found : position is_blank text ≡ Some place = cc in
    let all : length (drop (place + 1) text) ≤ length text - (place + 1) = omega (arith, length-drop (place + 1) text) in
    take_all (length text - (place + 1)) (drop (place + 1) text) all ∙ ap (λ (n : ℕ). drop (n + 1) text) (at_place text place found)

pub returns-in-None-clause-verb : goal.returns-in-None-clause-verb
returns-in-None-clause-verb c =
    let text = c.args.text.now in
    let none : position is_blank text ≡ None = cc in
    sym (take_all (position_or_len is_blank text) text (after_all text none))

pub returns-in-None-clause-pairs : goal.returns-in-None-clause-pairs
returns-in-None-clause-pairs c =
    let text = c.args.text.now in
    let none : position is_blank text ≡ None = cc in
    let long = after_all text none in
    sym (drop_all (position_or_len is_blank text + 1) text (omega arith))
