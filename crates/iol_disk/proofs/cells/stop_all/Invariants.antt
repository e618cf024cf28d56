use Rattle.std.proofs.Common.{◌≡◌, ℕ, ◌<◌, ◌≤◌, None, slice_get, length}
use Rattle.iol_disk.specs.Cells.{durable_of, written_of}
use Rattle.iol_disk.specs.Stops.{Leaves}
use Rattle.iol_disk.proofs.cells.stop_all.Given as goal

abbrev pub invariant-loop-cell : goal.invariant-loop-cell
invariant-loop-cell l = record {
  same_length : length l.cell-items ≡ length l.initial.cell-items;
  left : (i : ℕ) → i < l.cell-index
      → Leaves l.pick (durable_of l.initial.cell-items i) (written_of l.initial.cell-items i) (durable_of l.cell-items i);
  settled : (i : ℕ) → i < l.cell-index → written_of l.cell-items i ≡ None;
  ahead : (i : ℕ) → l.cell-index ≤ i → slice_get l.cell-items i ≡ slice_get l.initial.cell-items i;
}
