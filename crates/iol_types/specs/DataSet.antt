-- Parameter sets: what is kept of a device.
use Rattle.std.specs.Prelude.{◌≡◌, ℕ, ◌+◌, ◌<◌, ◌≤◌, ◌^◌, nat_lt, false, if◌then◌else◌, List, length, sum_by, All, Option, Some, None}
use Rattle.std.specs.Prelude.{is_some}
use Rattle.std.specs.List.{IsDistinct}
use Rattle.std.specs.Map.{keys_of, lookup}
use Rattle.iol_types.specs.Numbers.{IsDeviceNumber}
use Rattle.iol_types.specs.Key.{IsKey, same_key, is_reserved}
use Rattle.iol_types.specs.declared.key.Key.{Key}
use Rattle.iol_types.specs.declared.data_set.TheConstants.{MOST_ENTRY_OCTETS, ENTRY_HEAD_OCTETS, MOST_SET_OCTETS}
use Rattle.iol_types.specs.declared.set_builder.AddFault.{AddFault}
use Rattle.iol_types.specs.declared.set_builder.AddFault.TheVariants.{ReservedKey, EntryTooLong, Duplicate, SetTooLarge}

-- an entry: the key of a parameter, and its octets (own)
abbrev pub Entry : Type 0
Entry = Key × List ℕ

-- an entry that a set may hold: a key in range that is not reserved, with at most 232 octets (standard, Data Storage
-- object)
pub record IsEntry (entry : Entry) : Type 0 where
  pub key : IsKey entry.0
  pub free : is_reserved entry.0 ≡ false
  pub short : length entry.1 ≤ MOST_ENTRY_OCTETS

-- what entries count: four octets each, and their own (own)
abbrev pub octets_of : List Entry → ℕ
octets_of entries = sum_by (λ (entry : Entry). ENTRY_HEAD_OCTETS + length entry.1) entries

-- entries that a set may have: each is allowed, no key occurs twice, and they count at most 4,096 octets (own)
pub record AreEntries (entries : List Entry) : Type 0 where
  pub each : All IsEntry entries
  pub distinct : IsDistinct same_key (keys_of entries)
  pub fits : octets_of entries ≤ MOST_SET_OCTETS

-- the octets of a key among entries, if there is an entry for it (own)
abbrev pub data_at : List Entry → Key → Option (List ℕ)
data_at entries key = lookup (same_key key) entries

-- the content of a parameter set, wherever its parts are in memory: its entries in order, the VendorID and DeviceID of
-- its device, and the device's checksum (own)
pub record SetValue : Type 0 where
  pub entries : List Entry
  pub vendor : ℕ
  pub device : ℕ
  pub checksum : ℕ

-- a valid parameter set: entries that a set may have, and numbers in their ranges (own)
pub record IsSet (set : SetValue) : Type 0 where
  pub entries : AreEntries set.entries
  pub vendor : set.vendor < 2 ^ 16
  pub device : IsDeviceNumber set.device
  pub checksum : set.checksum < 2 ^ 32

-- why an entry is not added to others, by the first cause; none if it may be (own)
abbrev pub add_fault : List Entry → Key → List ℕ → Option AddFault
add_fault entries key octets =
    if is_reserved key then Some ReservedKey
    else if nat_lt MOST_ENTRY_OCTETS (length octets) then Some EntryTooLong
    else if is_some (data_at entries key) then Some Duplicate
    else if nat_lt MOST_SET_OCTETS (octets_of entries + ENTRY_HEAD_OCTETS + length octets) then Some SetTooLarge
    else None
