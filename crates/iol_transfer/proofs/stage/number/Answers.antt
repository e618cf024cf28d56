use Rattle.std.proofs.Common.{rules}
use Rattle.iol_transfer.proofs.stage.number.Goals as goal

pub returns-in_default-clause-number : goal.returns-in_default-clause-number
returns-in_default-clause-number c = search rules

pub returns-in_default-2-clause-number : goal.returns-in_default-2-clause-number
returns-in_default-2-clause-number c = search rules
