use Rattle.std.proofs.Common.{◌≡◌, ◌∙◌, ap, rules}
use Rattle.json.specs.Value.{members_view, value_view}
use Rattle.toml.specs.Data.{Members}
use Rattle.toml.specs.View.{table_view}
use Rattle.iol_requests.specs.Json.{table_with, with_member}
use Rattle.iol_requests.proofs.Tables.{next_member}
use Rattle.iol_requests.proofs.object.table_of.Goals as goal

pub loop-key-preserved : goal.loop-key-preserved
loop-key-preserved c =
    let item = c.loop-key-item.result in
    let next = next_member c.args.members.now c.loop-key.key-index item (table_view c.loop-key.table) c.loop-key-test.true in
    c.loop-key.invariant ∙ next ∙ search rules
