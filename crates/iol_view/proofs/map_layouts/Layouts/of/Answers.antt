use Rattle.std.proofs.Common.{rules}
use Rattle.iol_view.proofs.map_layouts.Layouts.of.Goals as goal

pub returns-in-Some-One-clause-version : goal.returns-in-Some-One-clause-version
returns-in-Some-One-clause-version c = search rules
