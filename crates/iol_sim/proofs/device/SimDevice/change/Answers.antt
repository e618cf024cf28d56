use Rattle.std.proofs.Common.{rules}
use Rattle.iol_sim.proofs.device.SimDevice.change.Goals as goal

pub returns-clause-changed : goal.returns-clause-changed
returns-clause-changed c = search rules
