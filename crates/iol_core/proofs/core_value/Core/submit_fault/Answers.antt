use Rattle.std.proofs.Common.{rules}
use Rattle.iol_core.proofs.core_value.Core.submit_fault.Goals as goal

pub returns-then-is_stopped : goal.returns-then-is_stopped
returns-then-is_stopped g c = search rules
