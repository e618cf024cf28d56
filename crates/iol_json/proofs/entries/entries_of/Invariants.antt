use Rattle.std.proofs.Common.{◌≡◌, map, take}
use Rattle.serde_json.specs.View.{view}
use Rattle.iol_json.specs.Json.{entry_data}
use Rattle.iol_json.proofs.entries.entries_of.Given as goal

-- the entries before the place
abbrev pub invariant-loop-place : goal.invariant-loop-place
invariant-loop-place l = map view l.entries.items ≡ map entry_data (take l.place l.set.entries)
