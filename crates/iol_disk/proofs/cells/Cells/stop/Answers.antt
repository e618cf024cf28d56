use Rattle.std.proofs.Common.{arith}
use Rattle.iol_disk.proofs.Written.{lists_none}
use Rattle.iol_disk.proofs.cells.Cells.stop.Goals as goal

pub invariant_of-self : goal.invariant_of-self
invariant_of-self c =
    lists_none c.stop_all.new.cells.items c.clear.new.self c.clear.ensures.items c.stop_all.ensures.settled
    (omega (arith, c.stop_all.ensures.length, c.clear.ensures.capacity, c.self.invariant.room))
