-- How deep a state nests as JSON.
use Rattle.std.proofs.Common.{◌≤◌, ◌+◌, ℕ, List, [], ◌∷◌, map, arith}
use Rattle.std.specs.Prelude.{max, Option, Some, None}
use Rattle.serde_json.specs.Data.{depth, items_depth}
use Rattle.serde_json.specs.View.{items_of}
use Rattle.iol_types.specs.DataSet.{Entry}
use Rattle.iol_types.specs.State.{Stored, Port, State}
use Rattle.iol_json.specs.Json.{entry_data, set_data, stored_data, port_data, ports_data, state_data}

-- if two depths are at most a number, so is the greater of them
within : (left right most : ℕ) → left ≤ most → right ≤ most → max left right ≤ most
within left right most one other = grind arith

entries_shallow : (entries : List Entry) → items_depth (items_of (map entry_data entries)) ≤ 1
entries_shallow [] = omega arith
entries_shallow (entry ∷ entries) =
    within (depth (entry_data entry)) (items_depth (items_of (map entry_data entries))) 1 (grind arith) (entries_shallow entries)

stored_shallow : (stored : Stored) → depth (stored_data stored) ≤ 3
stored_shallow stored = let entries = entries_shallow stored.set.entries in grind arith

set_shallow : (stored : Option Stored) → depth (set_data stored) ≤ 3
set_shallow None = omega arith
set_shallow (Some stored) = stored_shallow stored

-- a port nests at most four deep
pub port_shallow : (number : ℕ) (port : Port) → depth (port_data number port) ≤ 4
port_shallow number port = let set = set_shallow port.stored in let previous = set_shallow port.previous in grind arith

ports_shallow : (number : ℕ) (ports : List Port) → items_depth (items_of (ports_data number ports)) ≤ 4
ports_shallow number [] = omega arith
ports_shallow number (port ∷ ports) =
    within (depth (port_data number port)) (items_depth (items_of (ports_data (number + 1) ports))) 4 (port_shallow number port)
    (ports_shallow (number + 1) ports)

-- a state nests no deeper than a reader of JSON accepts
pub state_shallow : (number : ℕ) (state : State) → depth (state_data number state) ≤ 127
state_shallow number state = let ports = ports_shallow 1 state in grind arith
