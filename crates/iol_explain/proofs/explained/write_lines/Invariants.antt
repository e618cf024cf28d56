use Rattle.std.proofs.Common.{◌≡◌, take}
use Rattle.std.specs.Fmt.{HasWritten, IsPlainFormatter}
use Rattle.iol_explain.specs.Explained.{told_lines, telling_after}
use Rattle.iol_explain.specs.Telling.{first}
use Rattle.iol_explain.proofs.explained.write_lines.Given as goal

-- the lines of the events so far are written, and `telling` is what they have reported
abbrev pub invariant-loop-place : goal.invariant-loop-place
invariant-loop-place g l =
    let events = take l.place l.events in record {
      text : IsPlainFormatter l.initial.f
          → HasWritten g.W.Write.write_str_gives l.initial.f (told_lines l.events_before l.geometry l.calls first 0 events) l.f;
      telling : l.telling ≡ telling_after l.events_before first 0 events;
    }
