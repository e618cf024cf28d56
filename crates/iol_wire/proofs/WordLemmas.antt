-- The words of octets, from the first one on.
use Rattle.std.proofs.Common.{◌≡◌, ◌≢◌, ℕ, ◌<◌, ◌≤◌, Bool, true, false, ltb, List, [], ◌∷◌, Some, None, get_or, length, take, drop, ◌+◌}
use Rattle.std.proofs.Common.{◌-◌, position, ap, ◌∙◌, arith}
use Rattle.std.specs.List.{slice_split, position_or_len, before_first, after_first, filter, All}
use Rattle.std.proofs.lemmas.Bool.Decides.{nat_tests}
use Rattle.std.proofs.lemmas.List.Splits.{slice_split-cons_yes, slice_split_first, slice_split_none}
use Rattle.std.proofs.lemmas.List.Sums.{fails_before_first}
use Rattle.std.proofs.lemmas.List.{length-take, length-drop}
use Rattle.std.proofs.Math.Seq.{take-length}
use Rattle.iol_wire.specs.Words.{is_blank, words}
use Rattle.iol_wire.specs.declared.words.TheConstants.{BLANK}

abbrev has_octet : List ℕ → Bool
has_octet word = ltb 0 (length word)

-- a blank begins no word
pub words_skip : (octet : ℕ) (more : List ℕ) → is_blank octet ≡ true → words (octet ∷ more) ≡ words more
words_skip octet more blank = ap (filter has_octet) (slice_split-cons_yes is_blank octet more blank)

-- a part that has an octet is kept
keeps : (word : List ℕ) (parts : List (List ℕ)) → 0 < length word
    → filter has_octet (word ∷ parts) ≡ word ∷ filter has_octet parts
keeps word parts some = grind (arith, nat_tests)

-- the place of the first octet that passes a test
first_place : (test : ℕ → Bool) (octets : List ℕ) (place : ℕ) → Some place ≡ position test octets
    → (position_or_len test octets ≡ place) × (place < length octets)
first_place test octets place found = grind (arith, nat_tests)

no_place : (test : ℕ → Bool) (octets : List ℕ) → None ≡ position test octets
    → length octets ≤ position_or_len test octets
no_place test octets none = grind (arith, nat_tests)

-- if octets do not begin with a blank, their first blank is at a later place
begins_later : (octets : List ℕ) → 0 < length octets → get_or octets 0 0 ≢ BLANK → 0 < position_or_len is_blank octets
begins_later [] some begins = absurd (omega arith)
begins_later (octet ∷ more) some begins = grind (arith, nat_tests)

-- the octets before the first blank are the first word
pub words_cut : (octets : List ℕ) (place : ℕ) → Some place ≡ position is_blank octets
    → 0 < length octets → get_or octets 0 0 ≢ BLANK
    → words octets ≡ before_first is_blank octets ∷ words (after_first is_blank octets)
words_cut octets place found some begins =
    let there = first_place is_blank octets place found in
    let later = begins_later octets some begins in
    let found_within : position_or_len is_blank octets < length octets = omega arith in
    ap (filter has_octet) (slice_split_first is_blank octets 0 found_within)
    ∙ keeps (before_first is_blank octets) (slice_split is_blank (after_first is_blank octets)) (simp length-take (omega arith))

-- the same, for the words of a cut
pub words_cut_at : (octets : List ℕ) (place : ℕ) → Some place ≡ position is_blank octets
    → 0 < length octets → get_or octets 0 0 ≢ BLANK
    → words octets ≡ take place octets ∷ words (take (length octets - (place + 1)) (drop (place + 1) octets))
words_cut_at octets place found some begins =
    let there = first_place is_blank octets place found in
    let cut = words_cut octets place found some begins in
    let rest : take (length octets - (place + 1)) (drop (place + 1) octets) ≡ drop (place + 1) octets =
    rw (← length-drop (place + 1) octets) (take-length (drop (place + 1) octets)) in
    rw rest (rw there.0 at cut)

-- octets without a blank are one word
pub words_last : (octets : List ℕ) → None ≡ position is_blank octets → 0 < length octets → words octets ≡ octets ∷ []
words_last octets none some =
    let past = no_place is_blank octets none in
    let unlike : All (λ (octet : ℕ). is_blank octet ≡ false) octets =
    λ k d within. fails_before_first is_blank octets k d (omega (arith, past)) in
    ap (filter has_octet) (slice_split_none is_blank octets unlike) ∙ keeps octets [] some
