use Rattle.std.proofs.Common.{◌≡◌, ◌≢◌, ℕ, ◌<◌, ◌≤◌, ◌^◌, ◌&&◌, Bool, true, false, nat_le, if◌then◌else◌, List, [], ◌∷◌, length, get_or}
use Rattle.std.proofs.Common.{Result, Ok, Err, Some, None, refl, sym, arith}
use Rattle.std.proofs.lemmas.Bool.Decides.{nat_tests}
use Rattle.std.proofs.lemmas.Str.Parse.{IsNumeralModel, numerals_by_value, tells_all_ascii_digits, parse_plain}
use Rattle.std.specs.Result.{result_ok}
use Rattle.std.specs.Str.{all_ascii_digits}
use Rattle.std.specs.Str.Parse.{digits_value, ParsesUnsigned}
use Rattle.iol_script.specs.Fail.{number_in, has_first_digit}
use Rattle.iol_script.specs.declared.fail.TheConstants.{LAST_FAILING_CALL}
use Rattle.iol_script.proofs.fail.number_in.Goals as goal

-- the digits of a text, and the number that they write
numerals : IsNumeralModel (λ ds. all_ascii_digits ds ≡ true) (digits_value 10)
numerals = numerals_by_value _ tells_all_ascii_digits

-- a number in range passes the test
small : (n : ℕ) → n ≤ LAST_FAILING_CALL → (if nat_le n LAST_FAILING_CALL then Some n else None) ≡ Some n
small n low = grind (arith, nat_tests)

large : (n : ℕ) → LAST_FAILING_CALL < n → (if nat_le n LAST_FAILING_CALL then Some n else None) ≡ None
large n high = grind (arith, nat_tests)

-- a text that begins with a digit of 1 to 9 is not empty, and does not begin with a plus
begins : (text : List ℕ) → has_first_digit text ≡ true → (0 < length text) × (get_or text 0 0 ≢ 43)
begins [] is = absurd (cc)
begins (first ∷ others) is = (omega arith, not_plus first is)
  where
    not_plus : (octet : ℕ) → (nat_le 49 octet && nat_le octet 57) ≡ true → octet ≢ 43
    not_plus octet digit plus = let never : false ≡ true = rw plus at digit in absurd (cc)

read_number : {E : Type 0} (text : List ℕ) (r : Result ℕ E) (n : ℕ) → has_first_digit text ≡ true → ParsesUnsigned 32 10 text r
    → Some n ≡ result_ok r → n ≤ LAST_FAILING_CALL → number_in text ≡ Some n
read_number {E = E} text (Ok m) n first parsed is low =
    let plain = parse_plain numerals {E = E} 32 text (Ok m) parsed (begins text first).1 in
    let value : digits_value 10 text ≡ n = cc (plain.1) in
    rw (first, plain.0.0, value) (small n low)
read_number text (Err e) n first parsed is low = absurd (cc)

not_read : {E : Type 0} (text : List ℕ) (r : Result ℕ E) → has_first_digit text ≡ true → ParsesUnsigned 32 10 text r
    → None ≡ result_ok r → number_in text ≡ None
not_read text (Ok m) first parsed is = absurd (cc)
not_read {E = E} text (Err e) first parsed is =
    let plain = parse_plain numerals {E = E} 32 text (Err e) parsed (begins text first).1 in
    none (all_ascii_digits text) (digits_value 10 text) (length text) (begins text first).0 plain
  where
    none : (all : Bool) (value len : ℕ) → 0 < len → ((all ≡ true) × (0 < len) × (value < 2 ^ 32) → ⊥)
        → (if has_first_digit text && all && nat_le value LAST_FAILING_CALL then Some value else None) ≡ None
    none false value len some not = rw first refl
    none true value len some not =
        let above : value < 2 ^ 32 → ⊥ = λ low. not (refl, some, low) in
        rw first (large value (omega (arith, above)))

pub returns-in_err-number : goal.returns-in_err-number
returns-in_err-number c =
    let first : has_first_digit c.args.digits.now ≡ true = cc in
    let none = not_read c.args.digits.now _ first c.parse.ensures.value.0 c.in_err-number.ensures.value in cc

pub returns : goal.returns
returns c =
    let first : has_first_digit c.args.digits.now ≡ true = cc in
    sym (read_number c.args.digits.now _ c.in_ok-number.number first c.parse.ensures.value.0 c.in_ok-number.ensures.value (omega arith))
