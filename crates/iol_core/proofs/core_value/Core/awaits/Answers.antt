use Rattle.std.proofs.Common.{rules}
use Rattle.iol_core.proofs.core_value.Core.awaits.Goals as goal

pub returns-then-first-self : goal.returns-then-first-self
returns-then-first-self g c = search rules
