use Rattle.std.proofs.Common.{◌≡◌, drop}
use Rattle.json.specs.Value.{members_view}
use Rattle.toml.specs.Data.{no_members}
use Rattle.toml.specs.View.{table_view}
use Rattle.iol_requests.specs.Json.{table_with}
use Rattle.iol_requests.proofs.object.table_of.Given as goal

-- the remaining members, added to the table so far, give the whole table
abbrev pub invariant-loop-key : goal.invariant-loop-key
invariant-loop-key l =
    table_with (members_view l.members) no_members ≡ table_with (members_view (drop l.key-index l.members)) (table_view l.table)
