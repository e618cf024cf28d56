use Rattle.std.proofs.Common.{take}
use Rattle.std.specs.Fmt.{HasWritten, IsPlainFormatter}
use Rattle.iol_explain.specs.Values.{keys_text}
use Rattle.iol_explain.proofs.list_words.write_keys.Given as goal

-- the text of the keys so far is written
abbrev pub invariant-loop-key : goal.invariant-loop-key
invariant-loop-key g l =
    IsPlainFormatter l.initial.f → HasWritten g.W.Write.write_str_gives l.initial.f (keys_text (take l.key-index l.keys)) l.f
