use Rattle.std.proofs.Common.{take}
use Rattle.std.specs.Fmt.{HasWritten, IsPlainFormatter}
use Rattle.std.specs.List.{flat_map}
use Rattle.iol_answers.specs.AnswerLines.{report_line}
use Rattle.iol_answers.proofs.answer_text.write_reports.Given as goal

-- the lines of the reports before this one
abbrev pub invariant-loop-report : goal.invariant-loop-report
invariant-loop-report g l =
    IsPlainFormatter l.initial.f
    → HasWritten g.W.Write.write_str_gives l.initial.f (flat_map report_line (take l.report-index l.reports)) l.f
