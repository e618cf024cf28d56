-- The number of times that each port was woken.
use Rattle.std.specs.Prelude.{◌≡◌, ℕ, ◌+◌, ◌-◌, ◌%◌, ◌^◌, ◌<◌, List, length, slice_index, slice_set}
use Rattle.iol_master.specs.declared.guarded.Phase.{Phase}
use Rattle.iol_master.specs.declared.guarded.Phase.TheVariants.{Running, Ending, Closed}

-- a count of wakes, one higher: after 2^64 - 1 it starts again at 0 (own)
abbrev pub woken_again : ℕ → ℕ
woken_again wakes = (wakes + 1) % 2 ^ 64

-- each of the ports has been woken once more (own)
abbrev pub AreWoken : List ℕ → List ℕ → Type 0
AreWoken before after =
    (length after ≡ length before) × ((k : ℕ) → k < length before → slice_index after k ≡ woken_again (slice_index before k))

-- the counts of wakes after the port with this number was woken: the wake counts only while ports are served, and only if the port exists
-- (own)
abbrev pub woken : Phase → ℕ → List ℕ → List ℕ
woken Running port wakes = slice_set wakes (port - 1) (woken_again (slice_index wakes (port - 1)))
woken Ending port wakes = wakes
woken Closed port wakes = wakes
