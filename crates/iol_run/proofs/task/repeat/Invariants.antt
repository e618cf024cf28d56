use Rattle.std.proofs.Common.{◌≤◌, replicate}
use Rattle.iol_run.specs.Runs.{KeepsRun}
use Rattle.iol_run.specs.Tasks.{HasMade}
use Rattle.iol_run.proofs.task.repeat.Given as goal

abbrev pub invariant-loop : goal.invariant-loop
invariant-loop g l = record {
  made : HasMade g.D.SectorDisk.disk g.L.DeviceLink.number g.L.DeviceLink.steps (replicate l.counter l.step) l.waits l.initial.run l.run;
  few : l.waits ≤ l.counter;
  kept : KeepsRun g.D.SectorDisk.disk g.F.Name.front.start l.initial.run l.run;
}
