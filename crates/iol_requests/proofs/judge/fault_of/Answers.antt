use Rattle.std.proofs.Common.{◌≡◌, true, None, rules}
use Rattle.toml.specs.View.{table_view}
use Rattle.iol_script.specs.Table.{has_only_keys}
use Rattle.iol_requests.specs.Key.{keys_of, wrong_key}
use Rattle.iol_requests.proofs.Complete.{is_request}
use Rattle.iol_requests.proofs.judge.fault_of.Goals as goal

pub unreachable-requires : goal.unreachable-requires
unreachable-requires c =
    let table = table_view c.args.table.now in
    let only : has_only_keys (keys_of c.args.verb) table ≡ true = search rules in
    let right : wrong_key c.args.verb table ≡ None = search rules in
    is_request c.args.verb table c.requires.verb only right c.requires.none
