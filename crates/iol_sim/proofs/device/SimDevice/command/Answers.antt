use Rattle.std.proofs.Common.{rules}
use Rattle.iol_sim.proofs.device.SimDevice.command.Goals as goal

pub returns-in-None-clause-refusal : goal.returns-in-None-clause-refusal
returns-in-None-clause-refusal c = search rules
