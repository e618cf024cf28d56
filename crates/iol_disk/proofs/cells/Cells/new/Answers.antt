use Rattle.std.proofs.Common.{arith}
use Rattle.std.proofs.lemmas.List.{length-replicate}
use Rattle.iol_disk.specs.Cells.{blank_cell}
use Rattle.iol_disk.proofs.Settled.{never_written}
use Rattle.iol_disk.proofs.Written.{lists_none}
use Rattle.iol_disk.proofs.cells.Cells.new.Goals as goal

pub invariant_of-result : goal.invariant_of-result
invariant_of-result c =
    rw c.in_ok-blank_cells.ensures
    (lists_none _ c.in_ok-with_capacity.field-0 c.in_ok-with_capacity.ensures.items (never_written c.args.sectors)
    (omega (arith, length-replicate c.args.sectors blank_cell, c.in_ok-with_capacity.ensures.capacity)))
