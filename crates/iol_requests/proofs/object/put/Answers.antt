use Rattle.std.proofs.Common.{◌≡◌, ◌∙◌, rules, ap}
use Rattle.toml.specs.View.{table_view}
use Rattle.iol_requests.proofs.Tables.{members_view-insert_entry}
use Rattle.iol_requests.proofs.object.put.Goals as goal

pub returns : goal.returns
returns c = search (rules, members_view-insert_entry)
