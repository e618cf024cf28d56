use Rattle.iol_commands.proofs.SaidDevices.{may_visit_live}
use Rattle.iol_plays.proofs.master.play_in_memory.Goals as goal

-- the devices are those that the script says
pub links_of-requires : goal.links_of-requires
links_of-requires g c =
    rw c.deref.ensures.value (may_visit_live c.args.script.now c.in_ok-script.script c.in_ok-script.ensures.script)
