-- The items of a list after one place was written.
use Rattle.std.proofs.Common.{◌≡◌, ◌≢◌, ℕ, zero, suc, List, [], ◌∷◌, Some, None, length, slice_get, slice_set, refl, ap}

module _ {A : Type 0} where
  pub get_written : (l : List A) (i : ℕ) (x y : A) → slice_get l i ≡ Some y → slice_get (slice_set l i x) i ≡ Some x
  get_written [] i x y e = absurd cc
  get_written (a ∷ l) zero x y e = refl
  get_written (a ∷ l) (suc i) x y e = get_written l i x y e

  pub get_other : (l : List A) (i j : ℕ) (x : A) → j ≢ i → slice_get (slice_set l i x) j ≡ slice_get l j
  get_other [] i j x apart = refl
  get_other (a ∷ l) zero zero x apart = absurd (apart refl)
  get_other (a ∷ l) zero (suc j) x apart = refl
  get_other (a ∷ l) (suc i) zero x apart = refl
  get_other (a ∷ l) (suc i) (suc j) x apart = get_other l i j x (λ same. apart (ap suc same))

  pub set_past : (l : List A) (i : ℕ) (x : A) → slice_get l i ≡ None → slice_set l i x ≡ l
  set_past [] i x e = refl
  set_past (a ∷ l) zero x e = absurd cc
  set_past (a ∷ l) (suc i) x e = ap (λ (rest : List A). a ∷ rest) (set_past l i x e)

  pub length_written : (l : List A) (i : ℕ) (x : A) → length (slice_set l i x) ≡ length l
  length_written [] i x = refl
  length_written (a ∷ l) zero x = refl
  length_written (a ∷ l) (suc i) x = ap suc (length_written l i x)
