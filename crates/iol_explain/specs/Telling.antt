-- What the lines before an event have reported.
use Rattle.std.specs.Prelude.{ℕ, List, Option, Some, None, replicate, slice_get, slice_set, unwrap_or}
use Rattle.std.specs.Option.{option_map_or}
use Rattle.iol_link.specs.Reading.{answer_of, request_of}
use Rattle.iol_engine.specs.Events.{event_of}
use Rattle.iol_run.specs.declared.run.Stamped.{Stamped}
use Rattle.iol_core.specs.Events.{Event, Exchange, Attended, Changed}
use Rattle.iol_commands.specs.Lines.{lost_in}
use Rattle.iol_explain.specs.Known.{attended, blank, heard, started}
use Rattle.iol_explain.specs.Requests.{asked_by}
use Rattle.iol_explain.specs.declared.known.Known.{Known}
use Rattle.iol_explain.specs.declared.telling.Telling.{Telling}

-- what was reported before the first event: nothing (own)
abbrev pub first : Telling
first = record { calls = 0; lost = None; ports = replicate 33 blank }

-- what is known of the port with this number (own)
abbrev pub known_at : List Known → ℕ → Known
known_at ports port = unwrap_or (slice_get ports port) blank

-- the port of an event, if the event changes what is known of that port (own)
abbrev pub port_of : Event → Option ℕ
port_of (Exchange port connection request answer) = Some port
port_of (Attended port work) = Some port
port_of (Changed port status) = Some port
port_of event = None

-- what is known of a port after an event of it (own)
abbrev pub known_after : Known → Event → Known
known_after known (Exchange port connection request answer) = heard known (asked_by (request_of request)) (answer_of answer)
known_after known (Attended port work) = attended known work
known_after known (Changed port status) = started known status
known_after known event = known

-- what is known of the port of an exchange, of work or of a status; a blank for any other event (own)
abbrev pub known_for : List Known → Event → Known
known_for ports event = option_map_or (known_at ports) (port_of event) blank

-- what is known of each port after an event (own)
abbrev pub ports_after : List Known → Event → List Known
ports_after ports event = option_map_or (λ port. slice_set ports port (known_after (known_at ports port) event)) (port_of event) ports

-- what was reported up to an event, this event and this number of disk calls included (own)
abbrev pub after : Telling → ℕ → Stamped → Telling
after telling calls stamped = record {
  calls = calls;
  lost = lost_in (event_of stamped.event);
  ports = ports_after telling.ports (event_of stamped.event);
}
