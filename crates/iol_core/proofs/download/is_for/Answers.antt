use Rattle.std.proofs.Common.{rules}
use Rattle.iol_core.proofs.download.is_for.Goals as goal

pub returns-then-vendor-clause-same : goal.returns-then-vendor-clause-same
returns-then-vendor-clause-same c = search rules

pub returns-then-vendor-clause-set : goal.returns-then-vendor-clause-set
returns-then-vendor-clause-set c = search rules
