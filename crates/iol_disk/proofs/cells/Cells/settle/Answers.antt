use Rattle.std.proofs.Common.{◌∙◌, ap, arith}
use Rattle.iol_disk.specs.Cells.{newest_in}
use Rattle.iol_disk.proofs.Settled.{settled_all, settled_written}
use Rattle.iol_disk.proofs.Written.{lists_none}
use Rattle.iol_disk.proofs.cells.Cells.settle.Goals as goal

pub invariant_of-self : goal.invariant_of-self
invariant_of-self c =
    lists_none c.settle_listed.new.cells.items c.clear.new.self c.clear.ensures.items
    (λ i. ap newest_in (settled_all c.self.inside.cells.items c.settle_listed.new.cells.items c.self.inside.written c.self.invariant
    (rw c.deref.ensures.value at c.settle_listed.ensures.settled) i) ∙ settled_written _)
    (omega (arith, c.settle_listed.ensures.length, c.clear.ensures.capacity, c.self.invariant.room))
