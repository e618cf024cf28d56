use Rattle.iol_commands.proofs.SaidDevices.{may_visit_live}
use Rattle.iol_serve.proofs.command.said_devices.Goals as goal

-- the devices are those of the script
pub returns : goal.returns
returns c = may_visit_live c.args.script.now c.in_ok-script.script c.in_ok-script.ensures.script
