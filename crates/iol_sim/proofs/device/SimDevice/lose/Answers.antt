use Rattle.std.proofs.Common.{rules}
use Rattle.iol_sim.proofs.device.SimDevice.lose.Goals as goal

pub returns : goal.returns
returns c = search rules
