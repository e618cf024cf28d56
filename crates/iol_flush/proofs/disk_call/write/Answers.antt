use Rattle.iol_flush.proofs.Keeping.{still_written, is_written, not_written}
use Rattle.iol_flush.proofs.disk_call.write.Goals as goal

pub returns-in-More-clause-run : goal.returns-in-More-clause-run
returns-in-More-clause-run g c =
    still_written g.D.SectorDisk.disk c.args.writing c.in-More.more c.in-More.ensures.more.commands c.in-More.ensures.run

pub returns-in-Done-clause-run : goal.returns-in-Done-clause-run
returns-in-Done-clause-run g c =
    is_written g.D.SectorDisk.disk c.args.writing c.in-Done.journal c.in-Done.written c.in-Done.ensures.done.commands c.in-Done.ensures.run

pub returns-in-Failed-clause-run : goal.returns-in-Failed-clause-run
returns-in-Failed-clause-run g c = not_written g.D.SectorDisk.disk c.args.writing c.in-Failed.disk c.in-Failed.fault c.in-Failed.ensures.run

pub returns-in-Done-clause-sound : goal.returns-in-Done-clause-sound
returns-in-Done-clause-sound g c = λ sound.
    ((c.in-Done.ensures.durable sound.0).0, c.in-Done.ensures.paused sound.0 sound.1)

pub returns-in-More-clause-sound : goal.returns-in-More-clause-sound
returns-in-More-clause-sound g c = λ sound. (c.in-More.ensures.underway sound.0, c.in-More.ensures.beside sound.1)
