use Rattle.std.proofs.Common.{◌≡◌, take}
use Rattle.std.specs.Prelude.{None}
use Rattle.std.specs.Fmt.{HasWritten, IsPlainFormatter}
use Rattle.iol_commands.specs.Lines.{lines_of, events_of}
use Rattle.iol_commands.proofs.TraceLines.{lost_after}
use Rattle.iol_commands.proofs.trace_text.write_events.Given as goal

-- the lines of the events so far are written, and `lost` is the port whose device the last of them reports as lost
abbrev pub invariant-loop-stamped : goal.invariant-loop-stamped
invariant-loop-stamped g l =
    let events = events_of (take l.stamped-index l.events) in record {
      text : IsPlainFormatter l.initial.f → HasWritten g.W.Write.write_str_gives l.initial.f (lines_of events) l.f;
      lost : l.lost ≡ lost_after None events;
    }
