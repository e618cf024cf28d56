-- How deep answers nest as JSON.
use Rattle.std.proofs.Common.{◌≡◌, ◌≤◌, refl, List, [], ◌∷◌, map, arith}
use Rattle.std.specs.Prelude.{Option, Some, None}
use Rattle.serde_json.specs.Data.{depth, items_depth}
use Rattle.serde_json.specs.View.{items_of}
use Rattle.iol_json.proofs.Depth.{port_shallow}
use Rattle.iol_answers.specs.Objects.{answer_data, id_data, report_data}
use Rattle.iol_answers.specs.declared.answer.RequestAnswer.{RequestAnswer}
use Rattle.iol_answers.specs.declared.answer.RequestAnswer.TheVariants as answer
use Rattle.iol_answers.specs.declared.report.PortReport.{PortReport}
use Rattle.iol_answers.specs.declared.request_id.RequestId.{RequestId}
use Rattle.iol_answers.specs.declared.request_id.RequestId.TheVariants as id

reports_shallow : (reports : List PortReport) → items_depth (items_of (map report_data reports)) ≤ 1
reports_shallow [] = omega arith
reports_shallow (report ∷ reports) = let others = reports_shallow reports in grind arith

id_flat : (id_ : RequestId) → depth (id_data id_) ≡ 0
id_flat (id.Number number) = refl
id_flat (id.Text text) = refl

-- an answer nests no deeper than a reader of JSON accepts
pub answer_shallow : (id_ : Option RequestId) (answer_ : RequestAnswer) → depth (answer_data id_ answer_) ≤ 127
answer_shallow None (answer.Receipt number) = omega arith
answer_shallow None (answer.Refused refusal) = omega arith
answer_shallow None (answer.Port port state) = let within = port_shallow port state.now in omega arith
answer_shallow None (answer.Statuses reports) = let within = reports_shallow reports.now in omega arith
answer_shallow None (answer.Wrong mistake) = omega arith
answer_shallow None answer.Help = omega arith
answer_shallow (Some id_) (answer.Receipt number) = let flat = id_flat id_ in omega arith
answer_shallow (Some id_) (answer.Refused refusal) = let flat = id_flat id_ in omega arith
answer_shallow (Some id_) (answer.Port port state) =
    let flat = id_flat id_ in let within = port_shallow port state.now in omega arith
answer_shallow (Some id_) (answer.Statuses reports) =
    let flat = id_flat id_ in let within = reports_shallow reports.now in omega arith
answer_shallow (Some id_) (answer.Wrong mistake) = let flat = id_flat id_ in omega arith
answer_shallow (Some id_) answer.Help = let flat = id_flat id_ in omega arith
