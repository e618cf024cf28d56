use Rattle.std.proofs.Common.{◌≡◌, refl, None, ap, sym, ◌∙◌, subst}
use Rattle.iol_core.specs.Core.{CoreView}
use Rattle.iol_run.specs.EngineOnDisk.{EngineOnDiskView}
use Rattle.iol_run.specs.CoreOnDisk.{IsInStep}
use Rattle.iol_run.proofs.InStep.{from_none, master_is, to_none}
use Rattle.iol_run.proofs.Serving.{called_in_step, called_running}
use Rattle.iol_run.proofs.engine_on_disk.EngineOnDisk.call_disk.Goals as goal

pub invariant_of-self : goal.invariant_of-self
invariant_of-self g c =
    let i = c.self.inside in
    let start = g.F.Name.front.start in
    let none : i.committed ≡ None = ap (λ (m : EngineOnDiskView g.row.D.Denot). m.master.committed) c.self.view_is ∙ c.requires.0 in
    subst (λ o. IsInStep start i.engine.core c.disk_step.new.self o) (sym none)
    (called_in_step g.D.SectorDisk.disk start i.engine.core i.flusher c.disk_step.new.self c.disk_step.ensures.published
    c.in-Ok.ensures.step
    (subst (λ o. IsInStep start i.engine.core i.flusher o) none c.self.invariant))

pub returns-in-Ok-clause-run : goal.returns-in-Ok-clause-run
returns-in-Ok-clause-run g c =
    let i = c.self.inside in
    let none : i.committed ≡ None = ap (λ (m : EngineOnDiskView g.row.D.Denot). m.master.committed) c.self.view_is ∙ c.requires.0 in
    to_none g.D.SectorDisk.disk g.F.Name.front.start c.args.self.now.master i.engine.core c.disk_step.new.self i.committed none
    (from_none g.D.SectorDisk.disk g.F.Name.front.start c.args.self.now.master _ i.engine.core i.flusher i.committed
    (master_is c.self.view_is) none
    (called_running g.D.SectorDisk.disk g.F.Name.front.start i.engine.core i.engine.core i.flusher c.disk_step.new.self
    c.disk_step.ensures.published refl
    c.disk_step.ensures.run))

pub returns-in-Err-Disk-clause-run : goal.returns-in-Err-Disk-clause-run
returns-in-Err-Disk-clause-run g c =
    let i = c.self.inside in
    let none : i.committed ≡ None = ap (λ (m : EngineOnDiskView g.row.D.Denot). m.master.committed) c.self.view_is ∙ c.requires.0 in
    to_none g.D.SectorDisk.disk g.F.Name.front.start c.args.self.now.master c.fail.new.self.core c.disk_step.new.self i.committed none
    (from_none g.D.SectorDisk.disk g.F.Name.front.start c.args.self.now.master _ i.engine.core i.flusher i.committed
    (master_is c.self.view_is) none
    (called_running g.D.SectorDisk.disk g.F.Name.front.start i.engine.core c.fail.new.self.core i.flusher c.disk_step.new.self
    c.disk_step.ensures.published
    (ap (λ (core : CoreView). core.queue) c.fail.ensures.core) c.disk_step.ensures.run))
