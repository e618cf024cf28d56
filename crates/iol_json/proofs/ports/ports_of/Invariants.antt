use Rattle.std.proofs.Common.{◌≡◌, ◌-◌, map, take, length}
use Rattle.serde_json.specs.View.{view}
use Rattle.iol_json.specs.Json.{ports_data}
use Rattle.iol_json.proofs.ports.ports_of.Given as goal

-- the ports before this one
abbrev pub invariant-loop-number : goal.invariant-loop-number
invariant-loop-number l = record {
  ports : map view l.ports.items ≡ ports_data 1 (take (l.number - 1) l.state);
  count : l.number-end ≡ length l.state;
}
