use Rattle.iol_commands.proofs.SaidDevices.{may_visit}
use Rattle.iol_commands.proofs.commands.read_playable.Goals as goal

pub returns-clause-devices : goal.returns-clause-devices
returns-clause-devices c = may_visit c.args.text.now c.in_ok-script.script c.in_ok-script.ensures.script
