use Rattle.std.proofs.Common.{ℕ, List, take}
use Rattle.iol_run.specs.Runs.{KeepsRun}
use Rattle.iol_run.specs.Tasks.{HasDoneAll, IsCountOf}
use Rattle.iol_run.specs.declared.step.Step.{Step}
use Rattle.iol_run.proofs.task.make_tasks.Given as goal

-- the tasks so far are done
abbrev pub invariant-loop-task : goal.invariant-loop-task
invariant-loop-task g l = record {
  made : List Step;
  waited : ℕ;
  done : HasDoneAll g.D.SectorDisk.disk g.L.DeviceLink.number g.L.DeviceLink.steps (take l.task-index l.schedule) made waited l.initial.run
      l.run;
  count : IsCountOf l.waits waited;
  kept : KeepsRun g.D.SectorDisk.disk g.F.Name.front.start l.initial.run l.run;
}
