use Rattle.std.proofs.Common.{take}
use Rattle.std.specs.List.{flat_map}
use Rattle.std.specs.Fmt.{HasWritten, IsPlainFormatter}
use Rattle.iol_texts.specs.Recovered.{entry_line}
use Rattle.iol_texts.proofs.entry_text.write_entries.Given as goal

-- the lines of the entries before the place
abbrev pub invariant-loop-place : goal.invariant-loop-place
invariant-loop-place g l =
    IsPlainFormatter l.initial.f → HasWritten g.W.Write.write_str_gives l.initial.f (flat_map entry_line (take l.place l.set.entries)) l.f
