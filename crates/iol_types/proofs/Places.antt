-- What is at a place of a list, and what was found there.
use Rattle.std.proofs.Common.{◌≡◌, ℕ, zero, suc, ◌+◌, Bool, true, true≢false, List, [], ◌∷◌, Option, Some, None, take, slice_get, refl, sym}
use Rattle.std.proofs.Common.{ap, add-one}
use Rattle.std.specs.Option.{option_map, option_eq}

-- two lists that are equal up to a place and at it are equal up to the next place
pub take_next : {A : Type 0} (xs ys : List A) (i : ℕ) → slice_get xs i ≡ slice_get ys i → take i xs ≡ take i ys → take (i + 1) xs
    ≡ take (i + 1) ys
take_next xs ys i here before = rw add-one (behind xs ys i here before)
  where
    behind : {A : Type 0} (xs ys : List A) (i : ℕ) → slice_get xs i ≡ slice_get ys i → take i xs ≡ take i ys → take (suc i) xs
        ≡ take (suc i) ys
    behind [] [] i here before = refl
    behind [] (y ∷ ys) zero here before = absurd cc
    behind [] (y ∷ ys) (suc i) here before = absurd cc
    behind (x ∷ xs) [] zero here before = absurd cc
    behind (x ∷ xs) [] (suc i) here before = absurd cc
    behind (x ∷ xs) (y ∷ ys) zero here before = let head : x ≡ y = cc in ap (λ one. one ∷ []) head
    behind (x ∷ xs) (y ∷ ys) (suc i) here before =
        let head : x ≡ y = cc in
        let tail : take i xs ≡ take i ys = cc in
        let next = behind xs ys i here tail in
        λ j. head j ∷ next j

-- two results have equal contents if a test finds them the same
pub same_found : {A B : Type 0} (test : A → A → Bool) (f : A → B) → ((one two : A) → test one two ≡ true → f one ≡ f two)
    → (one two : Option A) → option_eq test one two ≡ true → option_map f one ≡ option_map f two
same_found test f equal None None same = refl
same_found test f equal None (Some two) same = absurd (true≢false (sym same))
same_found test f equal (Some one) None same = absurd (true≢false (sym same))
same_found test f equal (Some one) (Some two) same = ap Some (equal one two same)
