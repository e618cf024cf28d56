use Rattle.std.proofs.Common.{rules}
use Rattle.iol_transfer.proofs.examples.a_busy_device.Goals as goal

pub returns-clause-sixteenth : goal.returns-clause-sixteenth
returns-clause-sixteenth c = search rules
