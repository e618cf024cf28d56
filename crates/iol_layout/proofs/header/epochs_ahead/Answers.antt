use Rattle.std.proofs.Common.{rules}
use Rattle.iol_layout.proofs.header.epochs_ahead.Goals as goal

pub returns-in-One-clause-count : goal.returns-in-One-clause-count
returns-in-One-clause-count c = search rules
