-- The clocks of events.
use Rattle.std.specs.Prelude.{◌≤◌, ℕ, List, [], ◌∷◌}
use Rattle.iol_core.specs.Events.{Stamp}

-- the clocks of events do not fall, from what the clock shows before them to what it shows after them (own)
abbrev pub ClocksRise : ℕ → ℕ → List Stamp → Type 0
ClocksRise before later [] = before ≤ later
ClocksRise before later (e ∷ events) = (before ≤ e.clock) × ClocksRise e.clock later events
