use Rattle.iol_master.proofs.Since.{since_withdrawn}
use Rattle.iol_master.proofs.WaitsForMemory.{ends_withdrawn}
use Rattle.iol_master.proofs.flushing.wait.Goals as goal

-- the batch that waits is taken back, and nothing else changes
pub returns-clause-since : goal.returns-clause-since
returns-clause-since g c =
    since_withdrawn g.D.SectorDisk.disk c.args.flusher.now.stage c.withdraw-unwritten.new.self.stage c.withdraw-unwritten.result
    c.withdraw-unwritten.ensures.withdrawn

pub returns-clause-ended : goal.returns-clause-ended
returns-clause-ended g c =
    ends_withdrawn c.args.flusher.now.stage c.withdraw-unwritten.new.self.stage c.withdraw-unwritten.result c.requires
    c.withdraw-unwritten.ensures.withdrawn
