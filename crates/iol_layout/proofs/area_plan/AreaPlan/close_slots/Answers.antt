use Rattle.std.proofs.Common.{arith}
use Rattle.iol_layout.specs.AreaWrites.{slot_write}
use Rattle.iol_disk.proofs.Making.{hands_on, made_more, failed_in_row}
use Rattle.iol_layout.proofs.area_plan.AreaPlan.close_slots.Goals as goal

pub returns-in_err-close_slot : goal.returns-in_err-close_slot
returns-in_err-close_slot g c =
    let plan = c.args.self.now in
    hands_on _ c.from_residual.result c.from_residual.ensures.1
    (failed_in_row (slot_write plan.layout plan.area) plan.layout.slots c.loop-slot.slot (omega (arith, c.slots-slot-end.ensures.value))
    c.loop-slot.invariant
    c.in_err-close_slot.was c.close_slot.ensures)

pub loop-slot-preserved : goal.loop-slot-preserved
loop-slot-preserved g c =
    let plan = c.args.self.now in
    made_more (slot_write plan.layout plan.area) c.loop-slot.slot c.loop-slot.invariant c.in_ok-close_slot.was c.close_slot.ensures
