-- Events of a run, with their moments, as data.
use Rattle.iol_core.specs.Events as trace
use Rattle.iol_engine.specs.Events.{event_of}
use Rattle.iol_run.specs.declared.run.Stamped.{Stamped}

-- an event with its moment, as data (own)
abbrev pub stamp_of : Stamped → trace.Stamp
stamp_of stamped = record { event = event_of stamped.event; clock = stamped.moment }
