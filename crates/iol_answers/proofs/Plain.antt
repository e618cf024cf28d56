-- Answers as JSON have no float.
use Rattle.std.proofs.Common.{◌≡◌, refl, List, [], ◌∷◌, map}
use Rattle.std.specs.Prelude.{false, Option, Some, None}
use Rattle.serde_json.specs.View.{items_of}
use Rattle.serde_json.specs.Written.{has_float, items_have_float}
use Rattle.iol_json.proofs.Plain.{port_plain}
use Rattle.iol_answers.specs.Objects.{answer_data, id_data, report_data}
use Rattle.iol_answers.specs.declared.answer.RequestAnswer.{RequestAnswer}
use Rattle.iol_answers.specs.declared.answer.RequestAnswer.TheVariants as answer
use Rattle.iol_answers.specs.declared.report.PortReport.{PortReport}
use Rattle.iol_answers.specs.declared.request_id.RequestId.{RequestId}
use Rattle.iol_answers.specs.declared.request_id.RequestId.TheVariants as id

reports_plain : (reports : List PortReport) → items_have_float (items_of (map report_data reports)) ≡ false
reports_plain [] = refl
reports_plain (report ∷ reports) = reports_plain reports

id_plain : (id_ : RequestId) → has_float (id_data id_) ≡ false
id_plain (id.Number number) = refl
id_plain (id.Text text) = refl

-- an answer has no float
pub answer_plain : (id_ : Option RequestId) (answer_ : RequestAnswer) → has_float (answer_data id_ answer_) ≡ false
answer_plain None (answer.Receipt number) = refl
answer_plain None (answer.Refused refusal) = refl
answer_plain None (answer.Port port state) = rw (port_plain port state.now) refl
answer_plain None (answer.Statuses reports) = rw (reports_plain reports.now) refl
answer_plain None (answer.Wrong mistake) = refl
answer_plain None answer.Help = refl
answer_plain (Some id_) (answer.Receipt number) = rw (id_plain id_) refl
answer_plain (Some id_) (answer.Refused refusal) = rw (id_plain id_) refl
answer_plain (Some id_) (answer.Port port state) = rw (id_plain id_, port_plain port state.now) refl
answer_plain (Some id_) (answer.Statuses reports) = rw (id_plain id_, reports_plain reports.now) refl
answer_plain (Some id_) (answer.Wrong mistake) = rw (id_plain id_) refl
answer_plain (Some id_) answer.Help = rw (id_plain id_) refl
