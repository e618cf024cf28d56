use Rattle.iol_flush.proofs.Keeping.{still_checkpointed, is_checkpointed, not_checkpointed, rests_after}
use Rattle.iol_flush.proofs.disk_call.checkpoint.Goals as goal

pub returns-in-More-clause-run : goal.returns-in-More-clause-run
returns-in-More-clause-run g c =
    still_checkpointed g.D.SectorDisk.disk c.args.checkpointing c.in-More.more c.args.batch c.in-More.ensures.run

pub returns-in-Done-clause-run : goal.returns-in-Done-clause-run
returns-in-Done-clause-run g c =
    is_checkpointed g.D.SectorDisk.disk c.args.checkpointing c.in-Done.journal c.args.batch c.in-Done.ensures.run

pub returns-in-Failed-clause-run : goal.returns-in-Failed-clause-run
returns-in-Failed-clause-run g c =
    not_checkpointed g.D.SectorDisk.disk c.args.checkpointing c.in-Failed.disk c.args.batch c.in-Failed.fault c.in-Failed.ensures.run

pub returns-in-Done-clause-sound : goal.returns-in-Done-clause-sound
returns-in-Done-clause-sound g c = λ sound.
    rests_after g.D.SectorDisk.disk c.in-Done.journal (c.in-Done.ensures.durable sound).0 c.in-Done.ensures.done.none
