use Rattle.std.proofs.Common.{rules}
use Rattle.iol_transfer.proofs.property.StateProperty.read.Goals as goal

pub returns : goal.returns
returns c = search rules
