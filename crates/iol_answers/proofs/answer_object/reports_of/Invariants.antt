use Rattle.std.proofs.Common.{◌≡◌, map, take}
use Rattle.serde_json.specs.View.{view}
use Rattle.iol_answers.specs.Objects.{report_data}
use Rattle.iol_answers.proofs.answer_object.reports_of.Given as goal

-- the reports before this one
abbrev pub invariant-loop-report : goal.invariant-loop-report
invariant-loop-report l = map view l.objects.items ≡ map report_data (take l.report-index l.reports)
