-- The document of a request is UTF-8, since its pairs are.
use Rattle.std.proofs.Common.{◌≡◌, ℕ, zero, suc, ◌<◌, ◌≤◌, ◌+◌, Bool, true, false, not, ◌&&◌, nat_lt, List, [], ◌∷◌, ◌++◌, length, get_or}
use Rattle.std.proofs.Common.{drop}
use Rattle.std.proofs.Common.{Option, Some, None, IsUtf8, inl, inr, refl, sym, ap, ◌∙◌, subst, arith, append_assoc, append-nil, ltb-true}
use Rattle.std.proofs.lemmas.Bool.{and_parts, cases_lt}
use Rattle.std.proofs.lemmas.Bool.Decides.{nat_tests}
use Rattle.std.specs.List.{position_or_len}
use Rattle.std.proofs.lemmas.List.{drop_all}
use Rattle.std.proofs.lemmas.List.Sums.{prefix_len_stops}
use Rattle.std.proofs.lemmas.Str.{IsUtf8-drop, IsCharBoundary-after_ascii}
use Rattle.std.proofs.lemmas.Str.{IsUtf8-append, IsUtf8-nil, IsUtf8-encode, encode_ascii, inside_one}
use Rattle.std.specs.Prelude.{codes}
use lib.Utf8.{scalars, encode, encodes, low_scalar}
use Rattle.iol_requests.specs.Verb.{verb_name}
use Rattle.iol_requests.specs.Words.{is_blank, within_after, as_toml, lines_of, document_of, pairs_in}
use Rattle.iol_requests.specs.declared.quote.Quote.{Quote}
use Rattle.iol_requests.specs.declared.quote.Quote.TheVariants.{Single, Double}
use Rattle.iol_requests.specs.declared.verb.Verb.{Verb}
use Rattle.iol_requests.specs.declared.verb.Verb.TheVariants.{Configure, Clear, Rollback, Read, Status, Help, Quit}

-- an octet of ASCII with UTF-8 after it is UTF-8
ascii_then : (x : ℕ) (xs : List ℕ) → x < 128 → IsUtf8 xs → IsUtf8 (x ∷ xs)
ascii_then x xs small text =
    IsUtf8-append (x ∷ []) xs (subst IsUtf8 (encode_ascii x small) (IsUtf8-encode x (low_scalar x (omega arith)))) text

-- all octets are ASCII
abbrev are_ascii : List ℕ → Bool
are_ascii [] = true
are_ascii (x ∷ xs) = nat_lt x 128 && are_ascii xs

ascii_text : (xs : List ℕ) → are_ascii xs ≡ true → IsUtf8 xs
ascii_text [] all = IsUtf8-nil
ascii_text (x ∷ xs) all = let parts = and_parts _ _ all in ascii_then x xs (ltb-true _ _ parts.0) (ascii_text xs parts.1)

-- an octet that is not ASCII is no blank and no quotation mark
no_blank : (x : ℕ) → 128 ≤ x → as_toml None x ≡ x
no_blank x high = grind (arith, nat_tests)

no_quote : (x : ℕ) → 128 ≤ x → within_after None x ≡ None
no_quote x high = grind (arith, nat_tests)

no_double : (x : ℕ) → 128 ≤ x → within_after (Some Double) x ≡ Some Double
no_double x high = grind (arith, nat_tests)

no_single : (x : ℕ) → 128 ≤ x → within_after (Some Single) x ≡ Some Single
no_single x high = grind (arith, nat_tests)

high_as_toml : (within : Option Quote) (x : ℕ) → 128 ≤ x → as_toml within x ≡ x
high_as_toml None x high = no_blank x high
high_as_toml (Some quote) x high = refl

high_within : (within : Option Quote) (x : ℕ) → 128 ≤ x → within_after within x ≡ within
high_within None x high = no_quote x high
high_within (Some Double) x high = no_double x high
high_within (Some Single) x high = no_single x high

-- an octet of ASCII is translated to an octet of ASCII
low_blank : (x : ℕ) → x < 128 → as_toml None x < 128
low_blank x low = grind (arith, nat_tests)

low_as_toml : (within : Option Quote) (x : ℕ) → x < 128 → as_toml within x < 128
low_as_toml None x low = low_blank x low
low_as_toml (Some quote) x low = low

-- octets that are not ASCII stay as they are
high_lines : (within : Option Quote) (xs ys : List ℕ) → ((k : ℕ) → k < length xs → 128 ≤ get_or xs k 0)
    → lines_of within (xs ++ ys) ≡ xs ++ lines_of within ys
high_lines within [] ys high = refl
high_lines within (x ∷ xs) ys high =
    let first : 128 ≤ x = high 0 (omega arith) in
    let others : lines_of within (xs ++ ys) ≡ xs ++ lines_of within ys = high_lines within xs ys (λ k below. high (suc k) (omega arith)) in
    rw (high_as_toml within x first, high_within within x first) (ap (λ (l : List ℕ). x ∷ l) others)

-- a character that is not ASCII has no octet of ASCII
high_char : (c : ℕ) → 128 ≤ c → (k : ℕ) → k < length (encode c) → 128 ≤ get_or (encode c) k 0
high_char c high k below = elim (cases_lt (get_or (encode c) k 0) 128) [
  | inl low ↦ absurd (omega (arith, inside_one c [] (encode c) k (sym (append-nil _)) below low))
  | inr same ↦ same
]

chars_lines : (cs : List ℕ) → scalars cs ≡ true → (within : Option Quote) → IsUtf8 (lines_of within (encodes cs))
chars_lines [] all within = IsUtf8-nil
chars_lines (c ∷ cs) all within =
    let parts = and_parts _ _ all in
    elim (cases_lt c 128) [
      | inl low ↦
          rw (encode_ascii c low)
          (ascii_then (as_toml within c) _ (low_as_toml within c low) (chars_lines cs parts.1 (within_after within c)))
      | inr high ↦
          rw (high_lines within (encode c) (encodes cs) (high_char c high))
          (IsUtf8-append (encode c) _ (IsUtf8-encode c parts.0) (chars_lines cs parts.1 within))
    ]

-- the lines of a text are UTF-8
text_lines : (within : Option Quote) (xs : List ℕ) → IsUtf8 xs → IsUtf8 (lines_of within xs)
text_lines within xs text = subst (λ (l : List ℕ). IsUtf8 (lines_of within l)) text.1.1 (chars_lines text.0 text.1.0 within)

verb_text : (verb : Verb) → IsUtf8 (verb_name verb)
verb_text Configure = ascii_text _ refl
verb_text Clear = ascii_text _ refl
verb_text Rollback = ascii_text _ refl
verb_text Read = ascii_text _ refl
verb_text Status = ascii_text _ refl
verb_text Help = ascii_text _ refl
verb_text Quit = ascii_text _ refl

-- the document of pairs that are UTF-8 is UTF-8
pub document_text : (verb : Verb) (pairs : List ℕ) → IsUtf8 pairs → IsUtf8 (document_of verb pairs)
document_text verb pairs text =
    let first : IsUtf8 (codes "do = \"") = ascii_text (codes "do = \"") refl in
    let end : IsUtf8 (codes "\"\n") = ascii_text (codes "\"\n") refl in
    IsUtf8-append _ _ (IsUtf8-append _ _ (IsUtf8-append _ _ first (verb_text verb)) end) (text_lines None pairs text)

-- a blank is an octet of ASCII
blank_low : (x : ℕ) → not (is_blank x) ≡ false → x < 128
blank_low x blank = grind (arith, nat_tests)

-- what follows the first blank of a text is UTF-8
pub pairs_text : (text : List ℕ) → IsUtf8 text → IsUtf8 (pairs_in text)
pairs_text text utf8 =
    let place = position_or_len is_blank text in
    elim (cases_lt place (length text)) [
      | inl more ↦
          let low = blank_low (get_or text place 0) (prefix_len_stops (λ x. not (is_blank x)) text 0 more) in
          IsUtf8-drop text (place + 1) utf8 (IsCharBoundary-after_ascii text place utf8 more low)
      | inr none ↦
          let all : length text ≤ place + 1 = omega arith in
          subst IsUtf8 (sym (drop_all (place + 1) text all)) IsUtf8-nil
    ]
