use Rattle.std.proofs.Common.{refl}
use Rattle.iol_flush.proofs.Keeping.{begins_checkpoint, keeps_given, rests_still}
use Rattle.iol_flush.proofs.disk_call.begin_checkpoint.Goals as goal

pub returns-in-Ok-clause-run : goal.returns-in-Ok-clause-run
returns-in-Ok-clause-run g c =
    begins_checkpoint g.D.SectorDisk.disk c.args.journal c.in-Ok.checkpointing c.args.batch c.checkpoint-in-Ok.result.0 c.in-Ok.ensures.run
    c.checkpoint-in-Ok.ensures.run

pub returns-in-Ok-clause-sound : goal.returns-in-Ok-clause-sound
returns-in-Ok-clause-sound g c = λ rest. c.checkpoint-in-Ok.ensures.sound (c.in-Ok.ensures.underway rest.0 rest.1)

pub returns-in-Err-clause-run : goal.returns-in-Err-clause-run
returns-in-Err-clause-run g c =
    keeps_given g.D.SectorDisk.disk c.args.journal c.in-Err.fault.journal c.args.batch c.args.batch c.in-Err.ensures.back refl

pub returns-in-Err-clause-sound : goal.returns-in-Err-clause-sound
returns-in-Err-clause-sound g c = λ rest.
    rests_still g.D.SectorDisk.disk c.args.journal c.in-Err.fault.journal c.in-Err.ensures.back rest
