-- A port as JSON has only whole numbers, texts and null: no float.
use Rattle.std.proofs.Common.{◌≡◌, refl, ℕ, List, [], ◌∷◌, map}
use Rattle.std.specs.Prelude.{false, Option, Some, None}
use Rattle.serde_json.specs.View.{items_of}
use Rattle.serde_json.specs.Written.{has_float, items_have_float}
use Rattle.iol_types.specs.DataSet.{Entry}
use Rattle.iol_types.specs.State.{Stored, Port}
use Rattle.iol_json.specs.Json.{entry_data, set_data, stored_data, port_data}

entries_plain : (entries : List Entry) → items_have_float (items_of (map entry_data entries)) ≡ false
entries_plain [] = refl
entries_plain (entry ∷ entries) = entries_plain entries

stored_plain : (stored : Stored) → has_float (stored_data stored) ≡ false
stored_plain stored = rw (entries_plain stored.set.entries) refl

set_plain : (stored : Option Stored) → has_float (set_data stored) ≡ false
set_plain None = refl
set_plain (Some stored) = stored_plain stored

-- a port has no float
pub port_plain : (number : ℕ) (port : Port) → has_float (port_data number port) ≡ false
port_plain number port = rw (set_plain port.previous, set_plain port.stored) refl
