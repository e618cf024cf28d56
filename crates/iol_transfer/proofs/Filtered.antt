-- Equal keys, and lists without some of their keys.
use Rattle.std.proofs.Common.{◌≡◌, ℕ, Bool, true, false, cond, ◌&&◌, List, [], ◌∷◌, refl, ap, sym, ◌∙◌, eqb-true}
use Rattle.std.specs.Prelude.{filter, ◌==◌}
use Rattle.std.specs.List.{AllByRecursion}
use Rattle.iol_types.specs.Key.{same_key}
use Rattle.iol_types.specs.declared.key.Key.{Key}

and_true : (a b : Bool) → (a && b) ≡ true → (a ≡ true) × (b ≡ true)
and_true true b both = (refl, both)
and_true false b both = cc

-- keys that are the same are equal
pub same_key-true : (one two : Key) → same_key one two ≡ true → one ≡ two
same_key-true one two same =
    let both = and_true (one.index == two.index) (one.subindex == two.subindex) same in
    ap (λ (index : ℕ). let key : Key = record { index = index; subindex = one.subindex } in key) (eqb-true _ _ both.0)
    ∙ ap (λ (subindex : ℕ). let key : Key = record { index = two.index; subindex = subindex } in key) (eqb-true _ _ both.1)

-- a filter after another filter is a filter by both tests
pub filter-filter : {X : Type 0} (outer inner both : X → Bool) → ((x : X) → both x ≡ (inner x && outer x)) → (xs : List X)
    → filter outer (filter inner xs) ≡ filter both xs
filter-filter outer inner both is [] = refl
filter-filter {X} outer inner both is (x ∷ xs) =
    by (inner x) (filter-filter outer inner both is xs)
    ∙ ap (λ (passes : Bool). cond passes (x ∷ filter both xs) (filter both xs)) (sym (is x))
  where
    by : (passes : Bool) → filter outer (filter inner xs) ≡ filter both xs
        → filter outer (cond passes (x ∷ filter inner xs) (filter inner xs))
        ≡ cond (passes && outer x) (x ∷ filter both xs) (filter both xs)
    by true rest = ap (λ (rest : List X). cond (outer x) (x ∷ rest) rest) rest
    by false rest = rest

-- a filter that every item passes changes nothing
pub filter-passed : {X : Type 0} (test : X → Bool) (xs : List X) → AllByRecursion (λ x. test x ≡ true) xs → filter test xs ≡ xs
filter-passed test [] all = refl
filter-passed {X} test (x ∷ xs) all =
    ap (λ (passes : Bool). cond passes (x ∷ filter test xs) (filter test xs)) all.0
    ∙ ap (λ (rest : List X). x ∷ rest) (filter-passed test xs all.1)
