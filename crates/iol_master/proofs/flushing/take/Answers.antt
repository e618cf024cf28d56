use Rattle.iol_master.proofs.Since.{since_gift}
use Rattle.iol_master.proofs.flushing.take.Goals as goal

pub returns-in-Batch-clause-since : goal.returns-in-Batch-clause-since
returns-in-Batch-clause-since g c =
    since_gift g.D.SectorDisk.disk c.args.flusher.now.stage c.in-Batch.batch c.give.new.self.stage c.give.result c.give.ensures.gift
