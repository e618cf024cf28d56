-- Acknowledged numbers do not fall.
use Rattle.std.specs.Prelude.{◌≤◌, ℕ, List, [], ◌∷◌}
use Rattle.iol_core.specs.Events.{Stamp}
use Rattle.iol_core.specs.Words.{acked_by}

-- from this number on, no acknowledged number is below the one before it (own)
abbrev pub AcksRise : ℕ → List Stamp → Type 0
AcksRise last [] = Unit {0}
AcksRise last (e ∷ events) = (last ≤ acked_by last e.event) × AcksRise (acked_by last e.event) events
