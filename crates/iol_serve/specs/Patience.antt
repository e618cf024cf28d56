-- The time for which a call waits for a driver.
use Rattle.std.specs.Prelude.{◌≡◌, ◌-◌, ◌<◌, ◌≤◌, ℕ, Option, Some, None, min}

-- the longest wait, in milliseconds, before a call checks again whether the master is to end; if it is, the call waits no longer than this
-- from then on (own)
abbrev pub longest_part : ℕ
longest_part = 50

-- the next wait of a call that has waited some milliseconds of a limit: all that is left, but no more than the longest part; none once it
-- has waited long enough (own)
abbrev pub IsNextPart : ℕ → ℕ → Option ℕ → Type 0
IsNextPart limit waited (Some wait) = (waited < limit) × (wait ≡ min (limit - waited) longest_part)
IsNextPart limit waited None = limit ≤ waited
