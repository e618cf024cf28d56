use Rattle.std.proofs.Common.{rules}
use Rattle.iol_core.proofs.core_value.Core.stored.Goals as goal

pub returns-in_err-port : goal.returns-in_err-port
returns-in_err-port g c = search rules

pub returns : goal.returns
returns g c = search rules
