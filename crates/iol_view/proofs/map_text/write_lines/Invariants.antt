use Rattle.std.proofs.Common.{take}
use Rattle.std.specs.Fmt.{HasWritten, IsPlainFormatter}
use Rattle.iol_view.specs.Map.{lines_text}
use Rattle.iol_view.proofs.map_text.write_lines.Given as goal

-- the text of the lines so far is written
abbrev pub invariant-loop-line : goal.invariant-loop-line
invariant-loop-line g l =
    IsPlainFormatter l.initial.f → HasWritten g.W.Write.write_str_gives l.initial.f (lines_text (take l.line-index l.lines)) l.f
