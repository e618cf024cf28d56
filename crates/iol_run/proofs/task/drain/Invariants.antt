use Rattle.std.proofs.Common.{replicate}
use Rattle.iol_run.specs.Runs.{KeepsRun}
use Rattle.iol_run.specs.Tasks.{HasMade}
use Rattle.iol_run.specs.declared.step.Step.TheVariants.{Flush}
use Rattle.iol_run.proofs.task.drain.Given as goal

-- none of the turns so far had to wait
abbrev pub invariant-loop : goal.invariant-loop
invariant-loop g l = record {
  made : HasMade g.D.SectorDisk.disk g.L.DeviceLink.number g.L.DeviceLink.steps (replicate l.counter Flush) 0 l.initial.run l.run;
  kept : KeepsRun g.D.SectorDisk.disk g.F.Name.front.start l.initial.run l.run;
}
