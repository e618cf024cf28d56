use Rattle.std.proofs.Common.{rules}
use Rattle.iol_recovery.proofs.opening.layout_used.Goals as goal

pub returns : goal.returns
returns c = search rules
