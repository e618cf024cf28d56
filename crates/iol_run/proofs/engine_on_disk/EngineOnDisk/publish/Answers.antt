use Rattle.std.proofs.Common.{◌≡◌, None, ap, ◌∙◌}
use Rattle.iol_run.specs.EngineOnDisk.{EngineOnDiskView}
use Rattle.iol_run.proofs.Batches.{published_running}
use Rattle.iol_run.proofs.InStep.{from_none, master_is}
use Rattle.iol_run.proofs.engine_on_disk.EngineOnDisk.publish.Goals as goal

pub returns-clause-run : goal.returns-clause-run
returns-clause-run g c =
    let i = c.self.inside in
    let none : i.committed ≡ None = ap (λ (m : EngineOnDiskView g.row.D.Denot). m.master.committed) c.self.view_is ∙ c.requires.0 in
    from_none g.D.SectorDisk.disk g.F.Name.front.start c.args.self.now.master _ i.engine.core i.flusher i.committed
    (master_is c.self.view_is) none
    (published_running g.D.SectorDisk.disk g.F.Name.front.start i.engine.core i.flusher c.publish.new.self c.in-Ok.committed
    c.in-Ok.ensures)
