use Rattle.std.proofs.Common.{refl}
use Rattle.iol_disk.specs.Gate.{closed_gate}
use Rattle.iol_layout.specs.Layout.{slot_at}
use Rattle.iol_disk.proofs.Making.{makes_write}
use Rattle.iol_layout.proofs.area_plan.AreaPlan.close_slot.Goals as goal

pub returns : goal.returns
returns g c =
    let plan = c.args.self.now in
    let e = c.close_gate.ensures in
    makes_write c.close_gate.result (slot_at plan.layout plan.area c.args.slot) closed_gate _ _ c.slot.ensures.gate refl e.wrote
    e.wrote_some e.fault
