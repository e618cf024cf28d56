-- The numbers in a script.
use Rattle.std.specs.Prelude.{ℕ, ℤ, pos, negsuc, ◌+◌, ◌^◌, ◌&&◌, nat_le, nat_lt, if◌then◌else◌, List, codes, Option, Some, None}
use Rattle.std.specs.Prelude.{option_and_then, option_map}
use Rattle.toml.specs.Data.{Data, Members, as_integer, get_member}
use Rattle.iol_types.specs.declared.port_id.TheConstants.{PORTS}
use Rattle.iol_types.specs.declared.device_id.TheConstants.{DEVICE_NUMBERS}
use Rattle.iol_script.specs.Table.{integer_at}
use Rattle.iol_script.specs.declared.number.TheConstants.{MOST_TIMES}

-- a whole number from 0 to below a bound (format, Scripts)
abbrev pub below : ℕ → ℤ → Option ℕ
below bound (pos n) = if nat_lt n bound then Some n else None
below bound (negsuc n) = None

-- the whole number in a value, from 0 to below a bound (format, Scripts)
abbrev pub number_of : ℕ → Data → Option ℕ
number_of bound value = option_and_then (below bound) (as_integer value)

-- the whole number at a key, from 0 to below a bound (format, Scripts)
abbrev pub number_below : ℕ → List ℕ → Members → Option ℕ
number_below bound key table = option_and_then (below bound) (integer_at key table)

-- the port number in a table (format, Scripts)
abbrev pub port_in : Members → Option ℕ
port_in table = option_and_then (λ n. if nat_le 1 n then Some n else None) (number_below (PORTS + 1) (codes "port") table)

-- the VendorID and the DeviceID in a table (format, Scripts)
abbrev pub vendor_in : Members → Option ℕ
vendor_in table = number_below (2 ^ 16) (codes "vendor") table

abbrev pub device_in : Members → Option ℕ
device_in table = number_below DEVICE_NUMBERS (codes "device") table

-- the octet at a key, or a default if the key is missing (format, Scripts)
abbrev pub octet_of : ℕ → Option Data → Option ℕ
octet_of absent None = Some absent
octet_of absent (Some value) = number_of (2 ^ 8) value

abbrev pub octet_or : ℕ → List ℕ → Members → Option ℕ
octet_or absent key table = octet_of absent (get_member key table)

-- the number of calls at a key, if it is there: any whole number from 0 on; in TOML it is below 2^63 (format, Scripts)
abbrev pub calls_of : Option Data → Option (Option ℕ)
calls_of None = Some None
calls_of (Some value) = option_map Some (number_of (2 ^ 63) value)

abbrev pub calls_at : List ℕ → Members → Option (Option ℕ)
calls_at key table = calls_of (get_member key table)

-- the number of times that a step is made: 1 to 10,000, or 1 if the table does not say it (format, Scripts)
abbrev pub times_of : Option Data → Option ℕ
times_of None = Some 1
times_of (Some value) =
    option_and_then (λ n. if nat_le 1 n && nat_le n MOST_TIMES then Some n else None) (number_of (2 ^ 16) value)

abbrev pub times_in : Members → Option ℕ
times_in table = times_of (get_member (codes "times") table)
