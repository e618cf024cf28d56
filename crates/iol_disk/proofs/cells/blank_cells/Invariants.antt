use Rattle.std.proofs.Common.{◌≡◌, replicate}
use Rattle.iol_disk.specs.Cells.{blank_cell}
use Rattle.iol_disk.proofs.cells.blank_cells.Given as goal

abbrev pub invariant-loop : goal.invariant-loop
invariant-loop l = l.cells.items ≡ replicate l.counter blank_cell
