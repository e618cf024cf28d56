use Rattle.std.proofs.Common.{map}
use Rattle.std.specs.List.{range_with_len}
use Rattle.iol_disk.specs.Calls.{Made}
use Rattle.iol_layout.specs.AreaWrites.{slot_write}
use Rattle.iol_layout.proofs.area_plan.AreaPlan.close_slots.Given as goal

abbrev pub invariant-loop-slot : goal.invariant-loop-slot
invariant-loop-slot g l =
    let d = g.D.SectorDisk.disk in
    Made (map (slot_write l.fn.self.layout l.fn.self.area) (range_with_len 0 l.slot)) (d l.fn.disk) (d l.disk)
