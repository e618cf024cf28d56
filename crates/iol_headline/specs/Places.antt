-- What holds of each event of a trace.
use Rattle.std.specs.Prelude.{◌≡◌, List, ◌∷◌, ◌++◌}
use Rattle.iol_core.specs.Events.{Event, Stamp}

-- for each event of a trace, this holds of the events before it and of the event (own)
abbrev pub Everywhere : (List Stamp → Event → Type 0) → List Stamp → Type 0
Everywhere Holds events = (before after : List Stamp) (e : Stamp) → events ≡ before ++ e ∷ after → Holds before e.event
