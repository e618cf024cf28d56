use Rattle.std.proofs.Common.{subst}
use Rattle.iol_engine.proofs.PortCalls.{step_becomes}
use Rattle.iol_run.specs.CoreOnDisk.{CoreOnDiskView, KeepsRunning}
use Rattle.iol_run.proofs.Calls.{stepped_in_step, stepped_running}
use Rattle.iol_run.proofs.InStep.{master_is}
use Rattle.iol_run.proofs.engine_on_disk.EngineOnDisk.step.Goals as goal

pub invariant_of-self : goal.invariant_of-self
invariant_of-self g c =
    let l = g.L.DeviceLink in
    let i = c.self.inside in
    let new = c.step-told.new.self.core in
    let is = c.step-told.ensures.steps in
    let becomes = step_becomes l.number l.steps is.before is.after c.args.link.now c.step-told.new.link i.engine.core new is.called
    is.status
    is.steps_as in
    stepped_in_step g.F.Name.front.start i.engine.core new is.called i.flusher i.committed becomes.0 c.self.invariant

pub returns-clause-run : goal.returns-clause-run
returns-clause-run g c =
    let l = g.L.DeviceLink in
    let i = c.self.inside in
    let new = c.step-told.new.self.core in
    let is = c.step-told.ensures.steps in
    let becomes = step_becomes l.number l.steps is.before is.after c.args.link.now c.step-told.new.link i.engine.core new is.called
    is.status
    is.steps_as in
    subst (λ (m : CoreOnDiskView g.row.D.Denot).
    KeepsRunning g.D.SectorDisk.disk g.F.Name.front.start m (record { core = new; flusher = i.flusher; committed = i.committed }))
    (master_is c.self.view_is)
    (stepped_running g.D.SectorDisk.disk g.F.Name.front.start i.engine.core new is.called i.flusher i.committed becomes.0
    c.live_number-number.ensures.core.legal c.self.invariant)
