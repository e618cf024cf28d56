use Rattle.std.proofs.Common.{rules}
use Rattle.iol_json.proofs.ports.set_or_null.Goals as goal

pub returns-in-Some : goal.returns-in-Some
returns-in-Some c = search rules
