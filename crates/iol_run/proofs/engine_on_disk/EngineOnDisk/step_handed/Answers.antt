use Rattle.std.proofs.Common.{◌++◌, [], refl, subst}
use Rattle.iol_engine.proofs.PortCalls.{step_becomes}
use Rattle.iol_engine.specs.Events.{told_of}
use Rattle.iol_engine.specs.Handed.{Hands, handed_number}
use Rattle.iol_engine.specs.HandedSteps.{StepsHanded}
use Rattle.iol_run.specs.CoreOnDisk.{CoreOnDiskView, KeepsRunning}
use Rattle.iol_run.specs.EngineOnDisk.{EngineOnDiskView}
use Rattle.iol_run.specs.HandedOnDisk.{engine_in}
use Rattle.iol_run.proofs.Calls.{stepped_in_step, stepped_running}
use Rattle.iol_run.proofs.InStep.{master_is}
use Rattle.iol_run.proofs.engine_on_disk.EngineOnDisk.step_handed.Goals as goal

pub invariant_of-self-2 : goal.invariant_of-self-2
invariant_of-self-2 g c =
    let i = c.self.inside in
    let new = c.step_handed.new.self.core in
    let is = c.in_ok-told.ensures.steps in
    let makes = is.makes in
    let becomes = step_becomes handed_number Hands makes.before makes.after c.args.handed is.linked i.engine.core new makes.called
    makes.status makes.steps_as in
    stepped_in_step g.F.Name.front.start i.engine.core new makes.called i.flusher i.committed becomes.0 c.self.invariant

pub returns-clause-steps : goal.returns-clause-steps
returns-clause-steps g c =
    let i = c.self.inside in
    let is = c.in_ok-told.ensures.steps in
    let told = told_of c.in_ok-told.told.called ++ told_of c.in_ok-told.told.status in
    let new : EngineOnDiskView g.row.D.Denot = record {
      master = record { core = c.step_handed.new.self.core; flusher = i.flusher; committed = i.committed };
      machines = c.step_handed.new.self.machines;
      connections = c.step_handed.new.self.connections;
    } in
    subst (λ (made : EngineOnDiskView g.row.D.Denot). StepsHanded c.args.port c.args.handed (engine_in made []) (engine_in new told) told)
    c.self.view_is
    (record { linked = is.linked; on = is.on; makes = is.makes; connections = is.connections; told_is = refl })

pub returns-clause-run : goal.returns-clause-run
returns-clause-run g c =
    let i = c.self.inside in
    let new = c.step_handed.new.self.core in
    let makes = c.in_ok-told.ensures.steps.makes in
    let becomes = step_becomes handed_number Hands makes.before makes.after c.args.handed c.in_ok-told.ensures.steps.linked i.engine.core
    new makes.called makes.status makes.steps_as in
    subst (λ (m : CoreOnDiskView g.row.D.Denot).
    KeepsRunning g.D.SectorDisk.disk g.F.Name.front.start m (record { core = new; flusher = i.flusher; committed = i.committed }))
    (master_is c.self.view_is)
    (stepped_running g.D.SectorDisk.disk g.F.Name.front.start i.engine.core new makes.called i.flusher i.committed becomes.0
    c.live_number-number.ensures.core.legal c.self.invariant)
