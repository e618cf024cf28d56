-- The lines of a trace.
use Rattle.std.specs.Prelude.{ℕ, ◌==◌, Bool, false, if◌then◌else◌, List, [], ◌∷◌, ◌++◌, map, codes, Option, Some, None}
use Rattle.std.specs.Option.{option_map_or}
use Rattle.std.specs.Fmt.{decimal}
use Rattle.iol_types.specs.State.{State}
use Rattle.iol_engine.specs.Events.{event_of}
use Rattle.iol_run.specs.declared.run.Stamped.{Stamped}
use Rattle.iol_core.specs.Events.{Event, Accepted, Refused, Page, Exchange, Lost, Attended, Changed, Acknowledged, DiskFailed}
use Rattle.iol_core.specs.Statuses as trace
use Rattle.iol_texts.specs.Texts.{refusal_name, spaced, status_text}
use Rattle.iol_texts.specs.Recovered.{recovered_text}

-- the line of a port with a word or a sign, and octets (format, Texts)
abbrev pub octets_line : ℕ → List ℕ → List ℕ → List ℕ
octets_line port sign octets = codes "port " ++ (decimal port ++ (codes " " ++ (sign ++ (spaced octets ++ codes "\n"))))

-- the lines of an event: two of an exchange and of a loss at a request that was sent, none of the work that is reported to a
-- port, and one of any other (format, Texts)
abbrev pub event_text : Event → List ℕ
event_text (Accepted number command) = codes "accepted " ++ (decimal number ++ codes "\n")
event_text (Refused refusal) = codes "refused " ++ (refusal_name refusal ++ codes "\n")
event_text (Page port connection octets) = octets_line port (codes "page") octets
event_text (Exchange port connection request answer) = octets_line port (codes ">") request ++ octets_line port (codes "<") answer
event_text (Lost port connection request) =
    option_map_or (octets_line port (codes ">")) request [] ++ (codes "port " ++ (decimal port ++ codes " lost\n"))
event_text (Attended port work) = []
event_text (Changed port status) = codes "port " ++ (decimal port ++ (codes " " ++ (status_text status ++ codes "\n")))
event_text (Acknowledged number) = codes "acknowledged " ++ (decimal number ++ codes "\n")
event_text DiskFailed = codes "disk failed\n"

-- the port whose device an event reports as lost (own)
abbrev pub lost_in : Event → Option ℕ
lost_in (Lost port connection request) = Some port
lost_in event = None

-- an event is the status of a port whose loss the event before it reported (own)
abbrev pub is_said : Event → Option ℕ → Bool
is_said (Changed port trace.Lost) (Some lost) = lost == port
is_said event lost = false

-- the lines of an event after another, which may have reported a loss: the loss is not printed twice (format, Texts)
abbrev pub lines_after : Option ℕ → Event → List ℕ
lines_after lost event = if is_said event lost then [] else event_text event

-- the lines of events, the first of which comes after another (format, Texts)
abbrev pub lines_from : Option ℕ → List Event → List ℕ
lines_from lost [] = []
lines_from lost (event ∷ events) = lines_after lost event ++ lines_from (lost_in event) events

-- the lines of the events of a trace (format, Texts)
abbrev pub lines_of : List Event → List ℕ
lines_of events = lines_from None events

-- the events of a trace, without their moments (own)
abbrev pub events_of : List Stamped → List Event
events_of stamped = map (λ (s : Stamped). event_of s.event) stamped

-- the text of a run: the lines of its events, that the power stopped, and the state that was recovered (format, Texts)
abbrev pub report_text : List Event → ℕ → State → List ℕ
report_text events number state = lines_of events ++ (codes "stopped\n" ++ recovered_text number state)
