use Rattle.std.proofs.Common.{rules}
use Rattle.iol_layout.proofs.layout.Layout.gate.Goals as goal

pub returns-in-B-clause-at : goal.returns-in-B-clause-at
returns-in-B-clause-at c = search rules
