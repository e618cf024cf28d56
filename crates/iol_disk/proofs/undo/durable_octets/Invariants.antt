use Rattle.std.proofs.Common.{◌≡◌, ℕ, Some, None, if◌then◌else◌, take}
use Rattle.iol_disk.specs.Cells.{durable_of, is_listed}
use Rattle.iol_disk.specs.Undo.{replaced_at}
use Rattle.iol_disk.proofs.undo.durable_octets.Given as goal

abbrev pub invariant-loop-sector : goal.invariant-loop-sector
invariant-loop-sector l = (i : ℕ) → replaced_at l.sync.items i
    ≡ (if is_listed (take l.sector-index l.listed) i then Some (durable_of l.cells i) else None)
