use Rattle.iol_flush.proofs.Keeping.{comes_to_rest}
use Rattle.iol_flush.proofs.disk_call.set_aside.Goals as goal

pub returns-then-can_pause-clause-run : goal.returns-then-can_pause-clause-run
returns-then-can_pause-clause-run g c = comes_to_rest g.D.SectorDisk.disk c.args.checkpointing c.pause.result c.pause.ensures.run
