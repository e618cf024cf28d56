-- The number of requests that wait.
use Rattle.std.specs.Prelude.{◌≡◌, ◌<◌, ◌+◌, ℕ, Bool, true, false}

-- the most requests that wait for their answers (own)
abbrev pub most_waiting : ℕ
most_waiting = 64

-- one more request waits if fewer than the most did, and otherwise no more (own)
abbrev pub BeginsWait : Bool → ℕ → ℕ → Type 0
BeginsWait true before after = (before < most_waiting) × (after ≡ before + 1)
BeginsWait false before after = (before ≡ most_waiting) × (after ≡ before)
