use Rattle.std.proofs.Common.{map, take}
use Rattle.iol_disk.specs.Calls.{Made}
use Rattle.iol_layout.specs.AreaPlans.{write_of}
use Rattle.iol_layout.proofs.area_plan.AreaPlan.write_records.Given as goal

abbrev pub invariant-loop-record : goal.invariant-loop-record
invariant-loop-record g l =
    let d = g.D.SectorDisk.disk in
    Made (take l.record-index (map write_of l.fn.self.records.items)) (d l.fn.disk) (d l.disk)
