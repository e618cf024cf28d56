use Rattle.std.proofs.Common.{false, rules}
use Rattle.iol_disk.specs.Gate.{closed_gate}
use Rattle.iol_disk.proofs.Gates.{is_open-closed_gate, gate-after_write}
use Rattle.iol_disk.proofs.slot.Slot.close_gate.Goals as goal

pub returns-clause-wrote : goal.returns-clause-wrote
unfolding closed_gate
returns-clause-wrote g c = search rules

pub returns-clause-closed : goal.returns-clause-closed
unfolding closed_gate
returns-clause-closed g c =
    gate-after_write c.write.result c.args.self.now.gate closed_gate _ _ false is_open-closed_gate c.write.ensures.wrote
