use Rattle.std.proofs.Common.{arith}
use Rattle.std.proofs.lemmas.Grind.{common_steps}
use Rattle.iol_core.proofs.core_value.Core.queue_fault.Goals as goal

pub returns-then-len-ge-QUEUE_COMMANDS : goal.returns-then-len-ge-QUEUE_COMMANDS
returns-then-len-ge-QUEUE_COMMANDS g c = grind (arith, common_steps)
