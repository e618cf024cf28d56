-- The numbers that words spell.
use Rattle.std.specs.Prelude.{ℕ, ◌^◌, ◌==◌, ◌&&◌, nat_lt, Bool, if◌then◌else◌, List, length, Option, Some, None}
use Rattle.std.specs.List.{list_all}
use Rattle.std.specs.Char.{is_digit}
use Rattle.std.specs.Str.Parse.{digits_value_after}
use Rattle.iol_wire.specs.declared.numeral.TheConstants.{HEXADECIMAL}

-- each octet is a digit of this radix, of either case (own)
abbrev pub are_digits : ℕ → List ℕ → Bool
are_digits radix digits = list_all (λ octet. is_digit octet radix) digits

-- the number that the digits of a radix spell after those of another number, if each octet is a digit and the number is below
-- 2^64 (own)
abbrev pub numeral_after : ℕ → ℕ → List ℕ → Option ℕ
numeral_after radix value digits =
    if are_digits radix digits && nat_lt (digits_value_after radix value digits) (2 ^ 64)
    then Some (digits_value_after radix value digits) else None

-- the number that the digits of a radix spell, if each octet is a digit and the number is below 2^64 (own)
abbrev pub numeral : ℕ → List ℕ → Option ℕ
numeral radix digits = numeral_after radix 0 digits

-- the number that a word of `count` hexadecimal digits spells (own)
abbrev pub hexadecimal : ℕ → List ℕ → Option ℕ
hexadecimal count word = if length word == count then numeral HEXADECIMAL word else None
