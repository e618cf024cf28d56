-- Why octets are not a message, and which fault is named if there are several.
use Rattle.std.specs.Prelude.{ℕ, ◌/◌, ◌%◌, ◌-◌, ◌==◌, ◌&&◌, ◌||◌, not, Bool, false, nat_lt, nat_le, List, length, slice_index}
use Rattle.std.specs.Prelude.{if◌then◌else◌, Option, Some, None, is_none}
use Rattle.std.specs.Option.{option_map_or}
use Rattle.iol_link.specs.Isdu.{xor_of}
use Rattle.iol_link.specs.Service.{service_at, is_request, carries}
use Rattle.iol_link.specs.declared.service.Service.{Service}
use Rattle.iol_link.specs.declared.faults.IsduFault.{IsduFault}
use Rattle.iol_link.specs.declared.faults.IsduFault.TheVariants.{Empty, Reserved, WrongService, Length, Check}

-- the I-Service of octets: bits 4 to 7 of the first (standard, ISDU)
abbrev pub i_service : List ℕ → ℕ
i_service octets = slice_index octets 0 / 16

-- the Length of octets: bits 0 to 3 of the first (standard, ISDU)
abbrev pub length_field : List ℕ → ℕ
length_field octets = slice_index octets 0 % 16

-- there are octets after the first, where ExtLength is (standard, ISDU)
abbrev pub has_ext_length : List ℕ → Bool
has_ext_length octets = nat_lt 1 (length octets)

-- the ExtLength of octets: the second (standard, ISDU)
abbrev pub ext_length : List ℕ → ℕ
ext_length octets = slice_index octets 1

-- ExtLength 0 to 16 and 239 to 255 are reserved (standard, ISDU)
abbrev pub has_reserved_ext_length : List ℕ → Bool
has_reserved_ext_length octets =
    has_ext_length octets
    && (nat_lt (ext_length octets) 17 || nat_lt 238 (ext_length octets))

-- the values that the standard reserves: with I-Service 0, a Length over 1; an I-Service of no
-- service; with any other I-Service, Length 0 or a reserved ExtLength (standard, ISDU)
abbrev pub is_reserved : List ℕ → Bool
is_reserved octets =
    if i_service octets == 0 then nat_lt 1 (length_field octets)
    else ((is_none (service_at (i_service octets)) || (length_field octets == 0))
    || ((length_field octets == 1) && has_reserved_ext_length octets))

-- Length, or ExtLength if Length is 1, is the number of all octets (standard, ISDU)
abbrev pub is_counted : List ℕ → Bool
is_counted octets =
    if length_field octets == 1 then has_ext_length octets && (ext_length octets == length octets)
    else length_field octets == length octets

-- how many octets an ISDU of `count` octets carries, between its length and CHKPDU (standard, ISDU)
abbrev pub carried_count : ℕ → ℕ
carried_count count = if nat_le count 15 then count - 2 else count - 3

-- the number of octets is the stated one, and their service carries this number of octets
-- (standard, ISDU)
abbrev pub has_its_length : List ℕ → Bool
has_its_length octets =
    is_counted octets
    && option_map_or (λ s. carries s (carried_count (length octets)))
    (service_at (i_service octets)) false

-- the first fault of octets, in the order of the checks, if services of one kind are read
-- (format, ISDU)
abbrev pub fault_among : (Service → Bool) → List ℕ → Option IsduFault
fault_among is_read octets =
    if length octets == 0 then Some Empty
    else if is_reserved octets then Some Reserved
    else if not (option_map_or is_read (service_at (i_service octets)) false) then Some WrongService
    else if not (has_its_length octets) then Some Length
    else if not (xor_of octets == 0) then Some Check
    else None

-- the first fault of octets that are read as a request (format, ISDU)
abbrev pub request_fault : List ℕ → Option IsduFault
request_fault octets = fault_among is_request octets

-- the first fault of octets that are read as an answer; nothing may follow 01, which is Device busy
-- (format, ISDU)
abbrev pub answer_fault : List ℕ → Option IsduFault
answer_fault octets =
    if slice_index octets 0 == 1 then (if length octets == 1 then None else Some Length)
    else fault_among (λ s. not (is_request s)) octets
