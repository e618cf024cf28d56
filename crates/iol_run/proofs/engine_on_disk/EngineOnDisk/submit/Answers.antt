use Rattle.std.proofs.Common.{subst, sym}
use Rattle.iol_types.specs.Command.{command_of}
use Rattle.iol_run.specs.CoreOnDisk.{CoreOnDiskView, IsRunning}
use Rattle.iol_run.proofs.InStep.{master_is, submit_in_step, submit_running}
use Rattle.iol_run.proofs.engine_on_disk.EngineOnDisk.submit.Goals as goal

pub invariant_of-self : goal.invariant_of-self
invariant_of-self g c =
    submit_in_step g.F.Name.front.start c.self.inside.engine.core c.submit-answer.new.self.core
    (command_of c.args.change) c.self.inside.flusher
    c.self.inside.committed c.submit-answer.result
    c.submit-answer.ensures.submit c.self.invariant

pub returns-clause-run : goal.returns-clause-run
returns-clause-run g c = record {
  goes_on = λ marks was.
      submit_running g.D.SectorDisk.disk g.F.Name.front.start marks c.self.inside.engine.core c.submit-answer.new.self.core
      (command_of c.args.change)
      c.self.inside.flusher
      c.self.inside.committed c.submit-answer.result c.submit-answer.ensures.submit c.self.invariant
      (subst (λ (m : CoreOnDiskView g.row.D.Denot). IsRunning g.D.SectorDisk.disk g.F.Name.front.start marks m) (sym
      (master_is c.self.view_is)) was);
}
