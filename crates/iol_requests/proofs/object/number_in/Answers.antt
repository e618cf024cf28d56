use Rattle.std.proofs.Common.{◌≡◌, ◌≢◌, ◌==◌, ℕ, ◌<◌, ◌≤◌, ◌^◌, ◌&&◌, Bool, true, false, nat_lt, if◌then◌else◌, List, length, get_or}
use Rattle.std.proofs.Common.{Result, Ok, Err, Some, None, Option, refl, sym, ◌∙◌, arith}
use Rattle.std.proofs.lemmas.Bool.{eqb-false}
use Rattle.std.proofs.lemmas.Bool.Decides.{nat_tests}
use Rattle.std.proofs.lemmas.Str.Parse.{IsNumeralModel, numerals_by_value, tells_all_ascii_digits, parse_plain}
use Rattle.std.specs.Result.{result_ok}
use Rattle.std.specs.Str.{all_ascii_digits}
use Rattle.std.specs.Str.Parse.{digits_value, ParsesUnsigned}
use Rattle.iol_requests.specs.Json.{number_in}
use Rattle.iol_requests.proofs.object.number_in.Goals as goal

-- the digits of a text, and the number that they write
numerals : IsNumeralModel (λ ds. all_ascii_digits ds ≡ true) (digits_value 10)
numerals = numerals_by_value _ tells_all_ascii_digits

-- a number in range passes the test
fits : (long : ℕ) (value : ℕ) → 0 < long → value < 2 ^ 63
    → (if nat_lt 0 long && nat_lt value (2 ^ 63) then Some value else None) ≡ Some value
fits long value some low = grind (arith, nat_tests)

above : (long : ℕ) (value : ℕ) → 2 ^ 63 ≤ value → (if nat_lt 0 long && nat_lt value (2 ^ 63) then Some value else None) ≡ None
above long value high = grind (arith, nat_tests)

empty : (long : ℕ) (value : ℕ) → (0 < long → value < 2 ^ 64 → ⊥)
    → (if nat_lt 0 long && nat_lt value (2 ^ 63) then Some value else None) ≡ None
empty long value not = grind (arith, nat_tests)

read_number : {E : Type 0} (text : List ℕ) (r : Result ℕ E) (n : ℕ) → get_or text 0 0 ≢ 43 → ParsesUnsigned 64 10 text r
    → Some n ≡ result_ok r → n < 2 ^ 63 → number_in text ≡ Some n
read_number {E = E} text (Ok m) n first parsed is low =
    let plain = parse_plain numerals {E = E} 64 text (Ok m) parsed first in
    let value : digits_value 10 text ≡ n = cc (plain.1) in
    let some : 0 < length text = plain.0.1 in
    rw (plain.0.0, value) (fits (length text) n some low)
read_number text (Err e) n first parsed is low = absurd (cc)

too_large : {E : Type 0} (text : List ℕ) (r : Result ℕ E) (n : ℕ) → get_or text 0 0 ≢ 43 → ParsesUnsigned 64 10 text r
    → Some n ≡ result_ok r → 2 ^ 63 ≤ n → number_in text ≡ None
too_large {E = E} text (Ok m) n first parsed is high =
    let plain = parse_plain numerals {E = E} 64 text (Ok m) parsed first in
    let value : digits_value 10 text ≡ n = cc (plain.1) in
    rw (plain.0.0, value) (above (length text) n high)
too_large text (Err e) n first parsed is high = absurd (cc)

not_read : {E : Type 0} (text : List ℕ) (r : Result ℕ E) → get_or text 0 0 ≢ 43 → ParsesUnsigned 64 10 text r
    → None ≡ result_ok r → number_in text ≡ None
not_read text (Ok m) first parsed is = absurd (cc)
not_read {E = E} text (Err e) first parsed is =
    let plain = parse_plain numerals {E = E} 64 text (Err e) parsed first in
    none (all_ascii_digits text) plain
  where
    none : (all : Bool) → ((all ≡ true) × (0 < length text) × (digits_value 10 text < 2 ^ 64) → ⊥)
        → (if all && nat_lt 0 (length text) && nat_lt (digits_value 10 text) (2 ^ 63) then Some (digits_value 10 text) else None) ≡ None
    none false not = refl
    none true not = empty (length text) (digits_value 10 text) (λ some low. not (refl, some, low))

-- a plus at the beginning was ruled out
pub returns-in_err-number-clause-number : goal.returns-in_err-number-clause-number
returns-in_err-number-clause-number c =
    let test : (get_or c.args.digits.now 0 0 == 43) ≡ false = cc in
    let first : get_or c.args.digits.now 0 0 ≢ 43 = eqb-false (get_or c.args.digits.now 0 0) 43 test in
    let none = not_read c.args.digits.now _ first c.parse.ensures.value.0 c.in_err-number.ensures.value in cc

pub returns-then-number-clause-number : goal.returns-then-number-clause-number
returns-then-number-clause-number c =
    let test : (get_or c.args.digits.now 0 0 == 43) ≡ false = cc in
    let first : get_or c.args.digits.now 0 0 ≢ 43 = eqb-false (get_or c.args.digits.now 0 0) 43 test in
    sym (read_number c.args.digits.now _ c.in_ok-number.number first c.parse.ensures.value.0 c.in_ok-number.ensures.value c.if-number.true)
