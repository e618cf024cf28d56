use Rattle.std.proofs.Common.{take}
use Rattle.std.specs.Fmt.{HasWritten, IsPlainFormatter}
use Rattle.iol_explain.specs.DiskLines.{call_lines}
use Rattle.iol_explain.proofs.disk_lines.write_calls.Given as goal

-- the lines of the calls so far are written
abbrev pub invariant-loop-call : goal.invariant-loop-call
invariant-loop-call g l =
    IsPlainFormatter l.initial.f → HasWritten g.W.Write.write_str_gives l.initial.f (call_lines l.geometry (take l.call-index l.calls)) l.f
