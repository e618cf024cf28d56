-- What the holes `{:02X}`, `{:04X}`, `{:06X}` and `{:08X}` write.
use Rattle.std.proofs.Common.{◌≡◌, refl, ℕ, zero, suc, ◌+◌, ◌-◌, ◌/◌, ◌%◌, ◌^◌, ◌<◌, false, true, List, [], ◌∷◌, ◌++◌, length, ap, sym}
use Rattle.std.proofs.Common.{◌∙◌, append_assoc, append-nil, add-one, arith}
use Rattle.std.specs.Prelude.{replicate, Bool, ◌==◌, if◌then◌else◌}
use Rattle.std.specs.Fmt.{digits, digits_onto, digit_glyph, padded_integral, format_spec, char_count}
use Rattle.std.proofs.lemmas.Bool.Decides.{nat_tests}
use Rattle.std.proofs.lemmas.Fmt.{hex_byte}
use Rattle.std.proofs.lemmas.Grind.{replicate_next}
use Rattle.std.proofs.Math.Nat.{pow-suc}
use Rattle.iol_texts.specs.Texts.{hex_of, hex_digits}

-- what a hole of this width writes of a number
abbrev pub hex_hole : ℕ → ℕ → List ℕ
hex_hole width n = padded_integral (format_spec 32 0 4 width (2 ^ 64 - 1)) false [] (digits 16 true n)

-- the digits of zero are zeros
digits_of_zero : (count : ℕ) → hex_digits count 0 ≡ replicate count 48
unfolding hex_digits
digits_of_zero zero = refl
digits_of_zero (suc count) =
    ap (λ (text : List ℕ). text ++ 48 ∷ []) (digits_of_zero count) ∙ sym (replicate_next count 48)
    ∙ ap (λ (zeros : ℕ). replicate zeros 48) (add-one count)

-- a text after zeros that fill it up to this length
abbrev filled : ℕ → List ℕ → List ℕ
filled count text = replicate (count - length text) 48 ++ text

filled_by : (count zeros : ℕ) (text : List ℕ) → count ≡ zeros + length text → filled count text ≡ replicate zeros 48 ++ text
filled_by count zeros text is =
    let same : count - length text ≡ zeros = omega arith in ap (λ (k : ℕ). replicate k 48 ++ text) same

-- the digits of a number before a text, after zeros that fill them up to `k + 1` digits
filled_digits : (k most n : ℕ) (text : List ℕ) → k < most → n < 16 ^ suc k
    → filled (suc k + length text) (digits_onto most 16 true n text) ≡ hex_digits (suc k) n ++ text
unfolding hex_digits
filled_digits k zero n text few fits = absurd (omega arith)
filled_digits zero (suc most) n text few fits =
    let high : n / 16 ≡ 0 = omega arith in
    rw high (filled_by (1 + length text) 0 (digit_glyph true (n % 16) ∷ text) (omega arith))
filled_digits (suc k) (suc most) n text few fits =
    by (digit_glyph true (n % 16)) (n / 16 == 0) refl
    (filled_digits k most (n / 16) (digit_glyph true (n % 16) ∷ text) (omega arith) (omega (arith, pow-suc 16 (suc k))))
  where
    by : (digit : ℕ) (last : Bool) → (n / 16 == 0) ≡ last
        → filled (suc k + length (digit ∷ text)) (digits_onto most 16 true (n / 16) (digit ∷ text))
        ≡ hex_digits (suc k) (n / 16) ++ (digit ∷ text)
        → filled (suc (suc k) + length text) (if last then digit ∷ text else digits_onto most 16 true (n / 16) (digit ∷ text))
        ≡ (hex_digits (suc k) (n / 16) ++ digit ∷ []) ++ text
    by digit true is others =
        let high : n / 16 ≡ 0 = grind (arith, nat_tests, is) in
        filled_by (suc (suc k) + length text) (suc k) (digit ∷ text) (omega arith)
        ∙ ap (λ (zeros : List ℕ). zeros ++ digit ∷ text) (sym (ap (hex_digits (suc k)) high ∙ digits_of_zero (suc k)))
        ∙ sym (append_assoc (hex_digits (suc k) (n / 16)) (digit ∷ []) text)
    by digit false is others =
        let long : suc (suc k) + length text ≡ suc k + length (digit ∷ text) = omega arith in
        ap (λ (count : ℕ). filled count (digits_onto most 16 true (n / 16) (digit ∷ text))) long ∙ others
        ∙ sym (append_assoc (hex_digits (suc k) (n / 16)) (digit ∷ []) text)

-- a hole of this width fills a text up with zeros
hole_filled : (k n : ℕ) (text : List ℕ) → filled (suc k + 0) text ≡ hex_digits (suc k) n ++ []
    → padded_integral (format_spec 32 0 4 (suc k) (2 ^ 64 - 1)) false [] text ≡ hex_digits (suc k) n
unfolding padded_integral char_count
hole_filled k n text same =
    let zeros : suc k + 0 - length text ≡ suc k - length text - 0 - 0 = omega arith in
    rw append-nil (ap (λ (z : ℕ). replicate z 48 ++ text) (sym zeros) ∙ same ∙ append-nil (hex_digits (suc k) n))

hole_is : (k n : ℕ) → k < 64 → n < 16 ^ suc k → hex_hole (suc k) n ≡ hex_digits (suc k) n
unfolding digits
hole_is k n few fits = hole_filled k n (digits 16 true n) (filled_digits k 64 n [] few fits)

pub hex_two : (n : ℕ) → n < 2 ^ 8 → hex_hole 2 n ≡ hex_of n
hex_two n fits = hex_byte true n fits

pub hex_four : (n : ℕ) → n < 2 ^ 16 → hex_hole 4 n ≡ hex_digits 4 n
hex_four n fits = hole_is 3 n (omega arith) fits

pub hex_six : (n : ℕ) → n < 2 ^ 24 → hex_hole 6 n ≡ hex_digits 6 n
hex_six n fits = hole_is 5 n (omega arith) fits

pub hex_eight : (n : ℕ) → n < 2 ^ 32 → hex_hole 8 n ≡ hex_digits 8 n
hex_eight n fits = hole_is 7 n (omega arith) fits
