-- Events as data.
use Rattle.std.specs.Prelude.{List, [], ◌∷◌, Option, Some, None}
use Rattle.iol_core.specs.Telling.{refusal_of, work_told}
use Rattle.iol_port.specs.Telling.{status_told}
use Rattle.std.specs.Option.{option_map}
use Rattle.iol_core.specs.Events as trace
use Rattle.iol_engine.specs.declared.event.Event.{Event}
use Rattle.iol_engine.specs.declared.event.Event.TheVariants.{Accepted, Refused, Page, Exchange, Lost, Attended, Status, Acknowledged}
use Rattle.iol_engine.specs.declared.event.Event.TheVariants.{DiskFailed}

-- an event as data (own)
abbrev pub event_of : Event → trace.Event
event_of (Accepted number said) = trace.Accepted number said.command
event_of (Refused fault) = trace.Refused (refusal_of fault)
event_of (Page port connection octets) = trace.Page port connection octets
event_of (Exchange port connection octets) = trace.Exchange port connection octets.value.request.items octets.value.answer.items
event_of (Lost port connection octets) = trace.Lost port connection (option_map (λ sent. sent.value.request.items) octets)
event_of (Attended port work) = trace.Attended port (work_told work)
event_of (Status port status) = trace.Changed port (status_told status)
event_of (Acknowledged number) = trace.Acknowledged number
event_of DiskFailed = trace.DiskFailed

-- the list with an event as data, if there is an event (own)
abbrev pub told_of : Option Event → List trace.Event
told_of None = []
told_of (Some event) = event_of event ∷ []
