use Rattle.std.proofs.Common.{◌≡◌, ℕ, if◌then◌else◌, take, slice_get, length}
use Rattle.std.specs.Option.{option_map}
use Rattle.iol_disk.specs.Cells.{settled, is_listed}
use Rattle.iol_disk.proofs.cells.settle_listed.Given as goal

abbrev pub invariant-loop-sector : goal.invariant-loop-sector
invariant-loop-sector l = record {
  same_length : length l.cells.items ≡ length l.initial.cells.items;
  so_far : (i : ℕ) → slice_get l.cells.items i ≡ (if is_listed (take l.sector-index l.listed) i
      then option_map settled (slice_get l.initial.cells.items i) else slice_get l.initial.cells.items i);
}
