-- Octets written one after the other.
use Rattle.std.proofs.Common.{◌≡◌, ℕ, ◌+◌, ◌<◌, length, arith, zero, suc, List, [], ◌∷◌, ◌++◌, Some, None, slice_get, take, ap, sym, ◌∙◌}
use Rattle.std.proofs.Common.{add-one, append_assoc}
use Rattle.std.specs.List.{concat}
use Rattle.std.proofs.lemmas.List.{append-nil}

concat-one_more : (texts : List (List ℕ)) (place : ℕ) (text : List ℕ) → slice_get texts place ≡ Some text
    → concat (take (suc place) texts) ≡ concat (take place texts) ++ text
concat-one_more [] place text is = absurd cc
concat-one_more (other ∷ texts) zero text is = let same : other ≡ text = cc in ap (λ t. t ++ []) same ∙ append-nil text
concat-one_more (other ∷ texts) (suc place) text is =
    ap (λ rest. other ++ rest) (concat-one_more texts place text is) ∙ sym (append_assoc other (concat (take place texts)) text)

-- the octets after the first texts and one more are written
pub written-one_more : (texts : List (List ℕ)) (place : ℕ) (text : List ℕ) (old before after : List ℕ) → slice_get texts place ≡ Some text
    → before ≡ old ++ concat (take place texts) → after ≡ before ++ text
    → after ≡ old ++ concat (take (place + 1) texts)
written-one_more texts place text old before after is so_far then_after =
    let more : concat (take (place + 1) texts) ≡ concat (take place texts) ++ text =
    rw add-one (concat-one_more texts place text is) in
    then_after ∙ ap (λ o. o ++ text) so_far ∙ append_assoc old _ _ ∙ ap (λ o. old ++ o) (sym more)

-- there is a text at each place below the number of texts
pub no_more : (texts : List (List ℕ)) (place : ℕ) → slice_get texts place ≡ None → place < length texts → ⊥
no_more [] place none below = omega (arith, below)
no_more (text ∷ texts) zero none below = cc
no_more (text ∷ texts) (suc place) none below = no_more texts place none (omega (arith, below))

-- three texts written in order
pub three_after : (old first second third : List ℕ) {one two three : List ℕ} → one ≡ old ++ first → two ≡ one ++ second → three ≡ two
    ++ third
    → three ≡ old ++ (first ++ (second ++ third))
three_after old first second third is_one is_two is_three =
    is_three ∙ ap (λ front. front ++ third) (is_two ∙ ap (λ front. front ++ second) is_one)
    ∙ append_assoc (old ++ first) second third ∙ append_assoc old first (second ++ third)

-- two texts written in order
pub two_after : (old first second : List ℕ) {one two : List ℕ} → one ≡ old ++ first → two ≡ one ++ second → two ≡ old ++ (first ++ second)
two_after old first second is_one is_two =
    is_two ∙ ap (λ front. front ++ second) is_one ∙ append_assoc old first second
