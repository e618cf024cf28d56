use Rattle.std.proofs.Common.{◌≡◌, ◌<◌, ◌≤◌, List, [], ◌∷◌, length, None, refl, arith, rules}
use Rattle.toml.specs.View.{items_view}
use Rattle.toml.specs.declared.value.Value.{Value}
use Rattle.iol_script.specs.Parameter.{key_of_items}
use Rattle.iol_script.proofs.parameter.key_of.Goals as goal

-- fewer than two values are not a key, and neither are more
too_few : (values : List Value) → length values < 2 → key_of_items (items_view values) ≡ None
too_few [] few = refl
too_few (first ∷ []) few = refl
too_few (first ∷ second ∷ others) few = absurd (omega arith)

too_many : (values : List Value) → 3 ≤ length values → key_of_items (items_view values) ≡ None
too_many [] many = refl
too_many (first ∷ []) many = refl
too_many (first ∷ second ∷ []) many = absurd (omega arith)
too_many (first ∷ second ∷ third ∷ others) many = refl

pub returns-in_default : goal.returns-in_default
returns-in_default c =
    let none = too_few c.as_slice.result.now c.in_default.len_below in
    search (rules, none)

pub returns-in_default-2 : goal.returns-in_default-2
returns-in_default-2 c =
    let none = too_many c.as_slice.result.now c.in_default.len_at_least in
    search (rules, none)
