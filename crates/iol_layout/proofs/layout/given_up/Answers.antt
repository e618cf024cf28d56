use Rattle.std.proofs.Common.{rules}
use Rattle.iol_layout.proofs.layout.given_up.Goals as goal

pub returns-in-Two-clause-count : goal.returns-in-Two-clause-count
returns-in-Two-clause-count c = search rules
