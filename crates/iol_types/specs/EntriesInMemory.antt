-- Entries in memory, and the entries that they represent.
use Rattle.std.specs.Prelude.{◌≡◌, ℕ, List, map}
use Rattle.std.specs.List.{AllByRecursion}
use Rattle.iol_types.specs.DataSet.{Entry, octets_of}
use Rattle.iol_types.specs.Parts.{PartsValue, IsWithin, octets_at, grown}
use Rattle.iol_types.specs.declared.key.Key.{Key}
use Rattle.iol_types.specs.declared.parts.PartPlace.{PartPlace}
use Rattle.iol_types.specs.declared.kept_entries.Entries.TheInside.{Inside}

-- keys and places as entries: each key has the octets at its place (own)
abbrev pub entries_of : PartsValue → List (Key × PartPlace) → List Entry
entries_of parts kept = map (λ entry. (entry.0, octets_at parts entry.1)) kept

-- the entries that the memory represents (own)
abbrev pub entries_in : Inside → List Entry
entries_in inside = entries_of inside.parts inside.places.entries

-- the parts are those of the entries that keys and places represent, and the entries count `octets` (own)
pub record AreKept (parts : PartsValue) (kept : List (Key × PartPlace)) (octets : ℕ) : Type 0 where
  pub made : parts ≡ grown (entries_of parts kept)
  pub within : AllByRecursion (λ (entry : Key × PartPlace). IsWithin parts entry.1) kept
  pub counted : octets ≡ octets_of (entries_of parts kept)
