-- The spelling of answers and events.
use Rattle.std.specs.Prelude.{◌≡◌, ℕ, List, Option, Some, None, string_bytes}
use Rattle.iol_requests.specs.declared.id.Id.{Id}
use Rattle.iol_requests.specs.declared.id.Id.TheVariants as id
use Rattle.iol_requests.specs.declared.line.Spelling.{Spelling}
use Rattle.iol_requests.specs.declared.line.Spelling.TheVariants.{Words, Json}
use Rattle.iol_answers.specs.AnswerLines.{answer_lines}
use Rattle.iol_answers.specs.EventLines.{event_line}
use Rattle.iol_answers.specs.JsonLines.{IsJsonLine}
use Rattle.iol_answers.specs.Objects.{answer_data, event_data}
use Rattle.iol_answers.specs.declared.answer.RequestAnswer.{RequestAnswer}
use Rattle.iol_answers.specs.declared.event.Event.{Event}
use Rattle.iol_answers.specs.declared.request_id.RequestId.{RequestId}
use Rattle.iol_answers.specs.declared.request_id.RequestId.TheVariants as given

-- the id in the answer is the id of its request (format, Requests)
abbrev pub IsSameId : Id → RequestId → Type 0
IsSameId (id.Number number) (given.Number again) = again ≡ number
IsSameId (id.Text text) (given.Text again) = again.now ≡ string_bytes text
IsSameId one other = ⊥

-- the answer gives back the id if there is one, and otherwise none (format, Requests)
abbrev pub IsGivenBack : Option Id → Option RequestId → Type 0
IsGivenBack None None = Unit {0}
IsGivenBack (Some id_) (Some again) = IsSameId id_ again
IsGivenBack one other = ⊥

-- a text is this answer to a request with this spelling and id (format, Lines of a serving master)
abbrev pub IsAnswerText : Spelling → Option Id → RequestAnswer → List ℕ → Type 0
IsAnswerText Words id_ answer text = text ≡ answer_lines answer
IsAnswerText Json id_ answer text = (again : Option RequestId) × IsGivenBack id_ again × IsJsonLine (answer_data again answer) text

-- a text is this event in this spelling (format, Lines of a serving master)
abbrev pub IsEventText : Spelling → Event → List ℕ → Type 0
IsEventText Words event text = text ≡ event_line event
IsEventText Json event text = IsJsonLine (event_data event) text
