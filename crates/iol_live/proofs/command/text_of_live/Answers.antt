use Rattle.iol_commands.proofs.SaidDevices.{may_visit_live}
use Rattle.iol_live.proofs.command.text_of_live.Goals as goal

-- the devices are those of the script
pub live_on_disk-requires-clause-devices : goal.live_on_disk-requires-clause-devices
live_on_disk-requires-clause-devices g c κs within =
    may_visit_live c.args.script.now c.in_ok-script.script c.in_ok-script.ensures.script
