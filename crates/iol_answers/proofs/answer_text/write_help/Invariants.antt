use Rattle.std.proofs.Common.{take, map}
use Rattle.std.specs.Fmt.{HasWritten, IsPlainFormatter}
use Rattle.std.specs.List.{flat_map}
use Rattle.iol_answers.specs.AnswerLines.{with_line_feed}
use Rattle.iol_answers.proofs.answer_text.write_help.Given as goal

-- the lines of the requests before this one
abbrev pub invariant-loop-text : goal.invariant-loop-text
invariant-loop-text g l =
    IsPlainFormatter l.initial.f
    → HasWritten g.W.Write.write_str_gives l.initial.f (flat_map with_line_feed (take l.text-index (map (λ text. text.now) l.text-items)))
    l.f
