use Rattle.std.proofs.Common.{rules}
use Rattle.iol_core.proofs.core_value.Core.is_current.Goals as goal

pub returns-in-Some-clause-current : goal.returns-in-Some-clause-current
returns-in-Some-clause-current g c = search rules

pub returns-in-Some-clause-passes : goal.returns-in-Some-clause-passes
returns-in-Some-clause-passes g c = search rules
