-- Lists of octets, and their ends.
use Rattle.std.proofs.Common.{◌≡◌, ℕ, ◌+◌, ◌-◌, ◌<◌, ◌≤◌, List, [], ◌∷◌, ◌++◌, length, take, drop, get_or, refl, ap, sym, ◌∙◌, arith}
use Rattle.std.proofs.Common.{append_assoc, length-drop, Bool, true, false}
use Rattle.std.specs.Prelude.{nat_lt}
use Rattle.std.proofs.lemmas.Bool.Decides.{nat_tests}
use Rattle.std.proofs.lemmas.List.{take-append-drop, get_or-append-add, get_or_append_left, get_or_past}

pub one_left : (xs : List ℕ) → length xs ≡ 1 → xs ≡ get_or xs 0 0 ∷ []
one_left [] h = absurd (omega arith)
one_left (x ∷ []) h = refl
one_left (x ∷ y ∷ xs) h = absurd (omega arith)

pub two_left : (xs : List ℕ) → length xs ≡ 2 → xs ≡ get_or xs 0 0 ∷ get_or xs 1 0 ∷ []
two_left [] h = absurd (omega arith)
two_left (x ∷ []) h = absurd (omega arith)
two_left (x ∷ y ∷ []) h = refl
two_left (x ∷ y ∷ z ∷ xs) h = absurd (omega arith)

-- all but the last, and the last
pub parted : (xs : List ℕ) → 0 < length xs
    → (last : ℕ) × (xs ≡ take (length xs - 1) xs ++ last ∷ [])
parted xs some =
    let rest = drop (length xs - 1) xs in
    let one : length rest ≡ 1 = omega (arith, length-drop (length xs - 1) xs) in (
      get_or rest 0 0,
      sym (take-append-drop (length xs - 1) xs)
          ∙ ap (λ r. take (length xs - 1) xs ++ r) (one_left rest one),
    )

-- an octet at every place
abbrev pub AreOctets : List ℕ → Type 0
AreOctets xs = (i : ℕ) → get_or xs i 0 < 256

-- a list within octets is itself one of octets
pub octets_between : (xs ys zs whole : List ℕ) → whole ≡ xs ++ ys ++ zs → AreOctets whole
    → AreOctets ys
octets_between xs ys zs whole is all i = by_place (nat_lt i (length ys)) refl
  where
    by_place : (b : Bool) → nat_lt i (length ys) ≡ b → get_or ys i 0 < 256
    by_place true inside =
        let within : i < length ys = grind (arith, nat_tests, inside) in
        let here : get_or whole (length xs + i) 0 ≡ get_or ys i 0 =
        ap (λ w. get_or w (length xs + i) 0) (is ∙ append_assoc xs ys zs)
        ∙ get_or-append-add xs (ys ++ zs) i 0 ∙ get_or_append_left ys zs 0 i within in
        omega (arith, here, all (length xs + i))
    by_place false outside =
        let past : length ys ≤ i = grind (arith, nat_tests, outside) in
        omega (arith, get_or_past ys i 0 past)
