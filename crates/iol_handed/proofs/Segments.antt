-- An element of lists that follow one another.
use Rattle.std.proofs.Common.{◌≡◌, ◌≤◌, ◌<◌, ℕ, zero, suc, ◌+◌, ◌-◌, List, [], ◌∷◌, ◌++◌, length, slice_get, map, option_map, ap, refl}
use Rattle.std.proofs.Common.{subst, sym, ◌∙◌, None, Some, arith}
use Rattle.std.proofs.lemmas.List.FromFn.{get_or-range_with_len, length-range_with_len}
use Rattle.std.proofs.lemmas.Option.{slice_get-get_or, slice_get-map, slice_get_past}
use Rattle.std.specs.List.{range_with_len}
use Rattle.iol_layout.specs.AreaWrites.{slot_write, slot_writes}
use Rattle.iol_layout.specs.Layout.{Layout}
use Rattle.iol_layout.specs.declared.area.Area.{Area}

pub in_first : {A : Type 0} (xs ys : List A) (k : ℕ) → k < length xs → slice_get (xs ++ ys) k ≡ slice_get xs k
in_first [] ys k below = absurd (omega arith)
in_first (x ∷ xs) ys zero below = refl
in_first (x ∷ xs) ys (suc k) below = in_first xs ys k (omega arith)

pub in_second : {A : Type 0} (xs ys : List A) (k : ℕ) → length xs ≤ k → slice_get (xs ++ ys) k ≡ slice_get ys (k - length xs)
in_second [] ys k past = let same : k ≡ k - 0 = omega arith in ap (slice_get ys) same
in_second (x ∷ xs) ys zero past = absurd (omega arith)
in_second (x ∷ xs) ys (suc k) past =
    let same : k - length xs ≡ suc k - suc (length xs) = omega arith in
    in_second xs ys k (omega arith) ∙ ap (slice_get ys) same

-- an element of four lists that is in the first of them is the one of that list
pub in_first_of : {A : Type 0} (xs ys zs ws : List A) (k : ℕ) → k < length xs → slice_get (((xs ++ ys) ++ zs) ++ ws) k ≡ slice_get xs k
in_first_of [] ys zs ws k below = absurd (omega arith)
in_first_of (x ∷ xs) ys zs ws zero below = refl
in_first_of (x ∷ xs) ys zs ws (suc k) below = in_first_of xs ys zs ws k (omega arith)

pub in_rest_of : {A : Type 0} (xs ys zs ws : List A) (k : ℕ) → length xs ≤ k
    → slice_get (((xs ++ ys) ++ zs) ++ ws) k ≡ slice_get ((ys ++ zs) ++ ws) (k - length xs)
in_rest_of [] ys zs ws k past = let same : k ≡ k - 0 = omega arith in ap (slice_get ((ys ++ zs) ++ ws)) same
in_rest_of (x ∷ xs) ys zs ws zero past = absurd (omega arith)
in_rest_of (x ∷ xs) ys zs ws (suc k) past =
    let same : k - length xs ≡ suc k - suc (length xs) = omega arith in
    in_rest_of xs ys zs ws k (omega arith) ∙ ap (slice_get ((ys ++ zs) ++ ws)) same

-- the write that closes the gate of a slot is the one with its number
pub slots_at : (layout : Layout) (a : Area) (k : ℕ) → k < layout.slots → slice_get (slot_writes layout a) k ≡ Some (slot_write layout a k)
slots_at layout a k below =
    let zero-plus : 0 + k ≡ k = omega arith in
    let slots = range_with_len 0 layout.slots in
    slice_get-map (slot_write layout a) slots k
    ∙ ap (option_map (slot_write layout a)) (slice_get-get_or slots k 0 (subst (λ (n : ℕ). k < n) (sym (length-range_with_len 0
    layout.slots)) below)
    ∙ ap Some (get_or-range_with_len 0 layout.slots k 0 below ∙ zero-plus))

pub slots_past : (layout : Layout) (a : Area) (k : ℕ) → layout.slots ≤ k → slice_get (slot_writes layout a) k ≡ None
slots_past layout a k past =
    let slots = range_with_len 0 layout.slots in
    slice_get-map (slot_write layout a) slots k
    ∙ ap (option_map (slot_write layout a)) (slice_get_past slots k (subst (λ (n : ℕ). n ≤ k) (sym (length-range_with_len 0
    layout.slots)) past))
