use Rattle.std.proofs.Common.{rules}
use Rattle.iol_script.proofs.parameters.are_distinct.Goals as goal

pub loop-first-preserved : goal.loop-first-preserved
loop-first-preserved c = search rules
