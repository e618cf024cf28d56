-- Answers and events as JSON. The members of an object are in the order of their names.
use Rattle.std.specs.Prelude.{ℕ, map, codes, Option, Some, None}
use Rattle.serde_json.specs.Data.{Data, string, array, object, Members, no_members, member, put}
use Rattle.serde_json.specs.View.{items_of}
use Rattle.iol_json.specs.Json.{whole, port_data}
use Rattle.iol_port.specs.Telling.{status_told}
use Rattle.iol_core.specs.Statuses.{Status}
use Rattle.iol_texts.specs.Texts.{status_text}
use Rattle.iol_answers.specs.Help.{help_texts}
use Rattle.iol_answers.specs.Refusals.{name_of, words_of}
use Rattle.iol_answers.specs.Statuses.{meaning_of}
use Rattle.iol_answers.specs.declared.answer.RequestAnswer.{RequestAnswer}
use Rattle.iol_answers.specs.declared.answer.RequestAnswer.TheVariants as answer
use Rattle.iol_answers.specs.declared.event.Event.{Event}
use Rattle.iol_answers.specs.declared.event.Event.TheVariants as event
use Rattle.iol_answers.specs.declared.refusal.Refusal.{Refusal}
use Rattle.iol_answers.specs.declared.report.PortReport.{PortReport}
use Rattle.iol_answers.specs.declared.request_id.RequestId.{RequestId}
use Rattle.iol_answers.specs.declared.request_id.RequestId.TheVariants as id

-- the id of a request, as the request has it (format, Lines of a serving master)
abbrev pub id_data : RequestId → Data
id_data (id.Number number) = whole number
id_data (id.Text text) = string text.now

-- a refusal: its name and its words (format, Lines of a serving master)
abbrev pub refused_members : Refusal → Members
refused_members refusal =
    member (codes "refused") (string (name_of refusal)) (member (codes "words") (string (words_of refusal)) no_members)

-- the status of the port with this number, and its words (format, Lines of a serving master)
abbrev pub status_members : ℕ → Status → Members
status_members port status =
    member (codes "port") (whole port) (member (codes "status") (string (status_text status))
    (member (codes "words") (string (meaning_of status)) no_members))

-- a port and its status, which was requested (format, Lines of a serving master)
abbrev pub report_data : PortReport → Data
report_data report = object (status_members report.port (status_told report.status))

-- an answer without its id (format, Lines of a serving master)
abbrev pub answer_members : RequestAnswer → Members
answer_members (answer.Receipt number) = member (codes "receipt") (whole number) no_members
answer_members (answer.Refused refusal) = refused_members refusal
answer_members (answer.Port port state) = member (codes "port") (port_data port state.now) no_members
answer_members (answer.Statuses reports) = member (codes "statuses") (array (items_of (map report_data reports.now))) no_members
answer_members (answer.Wrong mistake) = member (codes "wrong") (string mistake.now) no_members
answer_members answer.Help = member (codes "help") (array (items_of (map string help_texts))) no_members

-- members to which the id of the request is added, if it had one (format, Lines of a serving master)
abbrev pub with_id : Option RequestId → Members → Members
with_id None members = members
with_id (Some id_) members = put (codes "id") (id_data id_) members

-- an answer to the request with this id, if it had one (format, Lines of a serving master)
abbrev pub answer_data : Option RequestId → RequestAnswer → Data
answer_data id_ answer_ = object (with_id id_ (answer_members answer_))

-- an event (format, Lines of a serving master)
abbrev pub event_data : Event → Data
event_data (event.Serving ports commands) =
    object (member (codes "commands") (whole commands) (member (codes "event") (string (codes "serving"))
    (member (codes "ports") (whole ports) no_members)))
event_data (event.Status port status) =
    object (member (codes "event") (string (codes "status")) (status_members port (status_told status)))
event_data (event.Durable number) =
    object (member (codes "event") (string (codes "durable")) (member (codes "number") (whole number) no_members))
event_data (event.Ended number) =
    object (member (codes "event") (string (codes "ended")) (member (codes "number") (whole number) no_members))
