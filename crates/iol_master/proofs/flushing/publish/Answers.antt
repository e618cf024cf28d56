use Rattle.iol_master.proofs.Since.{since_published}
use Rattle.iol_master.proofs.flushing.publish.Goals as goal

pub returns-in-Ok-clause-since : goal.returns-in-Ok-clause-since
returns-in-Ok-clause-since g c =
    since_published g.D.SectorDisk.disk c.args.flusher.now c.publish.new.self c.publish.result c.publish.ensures
