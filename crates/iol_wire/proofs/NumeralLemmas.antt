-- The numbers that digits spell, one digit after another.
use Rattle.std.proofs.Common.{◌≡◌, ℕ, ◌+◌, ◌*◌, ◌^◌, ◌<◌, ◌≤◌, true, false, List, [], ◌∷◌, Some, None, arith}
use Rattle.std.specs.Char.{is_digit, digit_value}
use Rattle.std.specs.Str.Parse.{digits_value_after}
use Rattle.std.proofs.lemmas.Bool.Decides.{nat_tests}
use Rattle.std.proofs.Math.Nat.{mul-le-mul_left}
use Rattle.iol_wire.specs.Numeral.{numeral_after}

-- digits after a number spell no smaller number
digits_from : (radix value : ℕ) (digits : List ℕ) → 1 ≤ radix → value ≤ digits_value_after radix value digits
digits_from radix value [] base = omega arith
digits_from radix value (octet ∷ more) base =
    let grown : value ≤ value * radix = omega (arith, mul-le-mul_left value base) in
    omega (arith, digits_from radix (value * radix + digit_value octet) more base)

-- the first digit is appended to the number
pub numeral_more : (radix value octet : ℕ) (more : List ℕ) → is_digit octet radix ≡ true
    → numeral_after radix value (octet ∷ more) ≡ numeral_after radix (value * radix + digit_value octet) more
numeral_more radix value octet more digit = simp digit

-- an octet that is no digit spells no number
pub numeral_no_digit : (radix value octet : ℕ) (more : List ℕ) → is_digit octet radix ≡ false
    → numeral_after radix value (octet ∷ more) ≡ None
numeral_no_digit radix value octet more digit = simp digit

-- a number of 2^64 or more is not spelled
pub numeral_too_large : (radix value octet : ℕ) (more : List ℕ) → 1 ≤ radix
    → 2 ^ 64 ≤ value * radix + digit_value octet → numeral_after radix value (octet ∷ more) ≡ None
numeral_too_large radix value octet more base large =
    let from = digits_from radix (value * radix + digit_value octet) more base in
    grind (arith, nat_tests)

-- after the last digit the number is complete
pub numeral_end : (radix value : ℕ) → value < 2 ^ 64 → numeral_after radix value [] ≡ Some value
numeral_end radix value small = grind (arith, nat_tests)
