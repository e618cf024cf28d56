-- The parameters of a simulated device.
use Rattle.std.specs.Prelude.{ℕ, ◌+◌, ◌*◌, ◌%◌, ◌^◌, ◌≤◌, nat_lt, if◌then◌else◌, List, [], ◌∷◌, length, map, All, Option, Some, None}
use Rattle.std.specs.Prelude.{is_some}
use Rattle.std.specs.List.{flat_map, IsDistinct}
use Rattle.std.specs.Map.{keys_of}
use Rattle.arrayvec.specs.ArrayVec.{ArrayVec}
use Rattle.iol_types.specs.Key.{same_key, is_reserved}
use Rattle.iol_types.specs.DataSet.{Entry, IsEntry, data_at}
use Rattle.iol_types.specs.declared.key.Key.{Key}
use Rattle.iol_types.specs.declared.data_set.TheConstants.{MOST_ENTRY_OCTETS}
use Rattle.iol_sim.specs.declared.parameters.TheConstants.{MOST_PARAMETERS}
use Rattle.iol_sim.specs.declared.parameters.DeviceFault.{DeviceFault}
use Rattle.iol_sim.specs.declared.parameters.DeviceFault.TheVariants.{ReservedKey, TooLong, Duplicate, TooMany}

-- parameters in memory, as entries (own)
abbrev pub entries_of : List (Key × ArrayVec ℕ) → List Entry
entries_of kept = map (λ entry. (entry.0, entry.1.items)) kept

-- parameters that a simulated device may have: each is allowed in a parameter set, no key occurs
-- twice, and there are at most 70 (own)
pub record AreParameters (parameters : List Entry) : Type 0 where
  pub each : All IsEntry parameters
  pub distinct : IsDistinct same_key (keys_of parameters)
  pub few : length parameters ≤ MOST_PARAMETERS

-- the reason why a parameter is not added to others, the first that applies; none if it may be added
-- (own)
abbrev pub add_fault : List Entry → Key → List ℕ → Option DeviceFault
add_fault parameters key octets =
    if is_reserved key then Some ReservedKey
    else if nat_lt MOST_ENTRY_OCTETS (length octets) then Some TooLong
    else if is_some (data_at parameters key) then Some Duplicate
    else if nat_lt (length parameters) MOST_PARAMETERS then None
    else Some TooMany

-- the sum of these octets, each times its place; the first has this place (own)
abbrev pub weighted : ℕ → List ℕ → ℕ
weighted place [] = 0
weighted place (octet ∷ octets) = place * octet + weighted (place + 1) octets

-- the octets of all parameters, one parameter after another (own)
abbrev pub all_octets : List Entry → List ℕ
all_octets parameters = flat_map (λ (entry : Entry). entry.1) parameters

-- Parameter_Checksum of a simulated device: the sum, modulo 2^32, of the octets of all parameters,
-- each times its place, counted from 1 (own)
abbrev pub checksum_of : List Entry → ℕ
checksum_of parameters = weighted 1 (all_octets parameters) % 2 ^ 32
