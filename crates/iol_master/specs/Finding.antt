-- The results of the flusher's search for a batch.
use Rattle.std.specs.Prelude.{◌≡◌, ◌≢◌, ◌&&◌, not, nat_eq, ℕ, Bool, true, false, if◌then◌else◌, length}
use Rattle.iol_core.specs.Batches.{IsTaken, has_batch}
use Rattle.iol_master.specs.Callers.{GuardedView}
use Rattle.iol_master.specs.declared.finding.SearchResult.{SearchResult}
use Rattle.iol_master.specs.declared.finding.SearchResult.TheVariants as found
use Rattle.iol_master.specs.declared.guarded.Phase.{Phase}
use Rattle.iol_master.specs.declared.guarded.Phase.TheVariants.{Running, Ending, Closed}

-- the run is closed: no more commands come (own)
abbrev pub is_closed : Phase → Bool
is_closed Running = false
is_closed Ending = false
is_closed Closed = true

-- the flusher sleeps: no command is in the queue, and more may come (own)
abbrev pub is_idle : GuardedView → Bool
is_idle guarded = not (is_closed guarded.phase) && nat_eq (length guarded.callers) 0

-- nothing is left to write: no command is in the queue, and no more come (own)
abbrev pub is_over : GuardedView → Bool
is_over guarded = is_closed guarded.phase && nat_eq (length guarded.callers) 0

-- the result of a search that takes no batch (own)
abbrev pub end_found : GuardedView → SearchResult
end_found guarded = if is_over guarded then found.Closed else found.Nothing

-- only a closed run is found to be over (own)
abbrev pub IsEndIn : Phase → SearchResult → Type 0
IsEndIn phase found.Closed = phase ≡ Closed
IsEndIn phase other = Unit {0}

-- the flusher's search takes the batch that may be taken, or finds no memory for it. If there is no batch, the result is `Closed` once the
-- run is closed, and `Nothing` before (own)
abbrev pub Finds : GuardedView → ℕ → GuardedView → SearchResult → Type 0
Finds old room new (found.Batch batch) = IsTaken old.engine.core room new.engine.core batch
Finds old room new found.Nothing = (has_batch old.engine.core ≡ false) × (old.phase ≢ Closed) × (new.engine.core ≡ old.engine.core)
Finds old room new found.Closed = (has_batch old.engine.core ≡ false) × (old.phase ≡ Closed) × (new.engine.core ≡ old.engine.core)
Finds old room new found.NoMemory = (has_batch old.engine.core ≡ true) × (new.engine.core ≡ old.engine.core)
