use Rattle.std.proofs.Common.{rules}
use Rattle.iol_layout.proofs.header.version_named.Goals as goal

pub returns-in_default : goal.returns-in_default
returns-in_default c = search rules
