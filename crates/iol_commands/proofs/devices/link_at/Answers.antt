use Rattle.std.proofs.Common.{arith}
use Rattle.std.proofs.lemmas.Grind.{common_steps}
use Rattle.iol_commands.proofs.devices.link_at.Goals as goal

pub loop-device-preserved : goal.loop-device-preserved
loop-device-preserved c = grind (arith, common_steps)
