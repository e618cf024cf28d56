use Rattle.std.proofs.Common.{rules}
use Rattle.iol_layout.proofs.body.slots_of.Goals as goal

pub returns : goal.returns
returns c = search rules
