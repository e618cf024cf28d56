-- The disk call that a script makes fail.
use Rattle.std.specs.Prelude.{ℕ, Bool, false, ◌==◌, ◌&&◌, nat_le, if◌then◌else◌, List, [], ◌∷◌, codes, Option, Some, None, option_and_then}
use Rattle.std.specs.Prelude.{option_map}
use Rattle.std.specs.List.{before_first, after_first}
use Rattle.std.specs.Str.{bytes_eq, all_ascii_digits}
use Rattle.std.specs.Str.Parse.{digits_value}
use Rattle.toml.specs.Data.{Data, Members, as_str, get_member}
use Rattle.iol_disk.specs.declared.fault.DiskFault.{DiskFault}
use Rattle.iol_disk.specs.declared.fault.DiskFault.TheVariants.{Read, Write, Sync}
use Rattle.iol_script.specs.declared.fail.FailingCall.{FailingCall}
use Rattle.iol_script.specs.declared.fail.TheConstants.{LAST_FAILING_CALL}

-- the kind of disk call that a word names (format, Scripts)
abbrev pub kind_of : List ℕ → Option DiskFault
kind_of word =
    if bytes_eq word (codes "read") then Some Read
    else if bytes_eq word (codes "write") then Some Write
    else if bytes_eq word (codes "sync") then Some Sync
    else None

-- a text begins with a digit of 1 to 9 (own)
abbrev pub has_first_digit : List ℕ → Bool
has_first_digit [] = false
has_first_digit (first ∷ others) = nat_le 49 first && nat_le first 57

-- the number that digits write, in decimal without a leading zero, of 1 to 1,000,000 (format, Scripts)
abbrev pub number_in : List ℕ → Option ℕ
number_in digits =
    if has_first_digit digits && all_ascii_digits digits && nat_le (digits_value 10 digits) LAST_FAILING_CALL
    then Some (digits_value 10 digits) else None

-- the call that a text names: its kind before the first space, and its number after it (format, Scripts)
abbrev pub call_in : List ℕ → Option FailingCall
call_in text =
    option_and_then (λ kind. option_map (λ number. record { kind = kind; number = number })
    (number_in (after_first (λ octet. octet == 32) text))) (kind_of (before_first (λ octet. octet == 32) text))

-- the call that the value of the key `fail` names; if the key is missing, no call fails (format, Scripts)
abbrev pub fail_of : Option Data → Option (Option FailingCall)
fail_of None = Some None
fail_of (Some value) = option_map Some (option_and_then call_in (as_str value))

abbrev pub fail_in : Members → Option (Option FailingCall)
fail_in table = fail_of (get_member (codes "fail") table)
