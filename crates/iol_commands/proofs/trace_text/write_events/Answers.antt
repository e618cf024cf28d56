use Rattle.std.proofs.Common.{rules, ◌≡◌, ◌<◌, ◌+◌, length, refl, sym, ◌∙◌, take, get_or, arith}
use Rattle.std.proofs.lemmas.Grind.{put_two}
use Rattle.iol_engine.specs.Events.{event_of}
use Rattle.iol_commands.specs.Lines.{lines_of, lines_after, events_of}
use Rattle.iol_commands.proofs.TraceLines.{lines_next, lost_next}
use Rattle.iol_commands.proofs.trace_text.write_events.Goals as goal

pub loop-stamped-init : goal.loop-stamped-init
loop-stamped-init g c = record { text = λ plain. search rules; lost = refl }

pub loop-stamped-preserved : goal.loop-stamped-preserved
loop-stamped-preserved g c =
    let i = c.loop-stamped.stamped-index in
    let stamped = c.args.events.now in
    let item = c.stamped-item.result in
    let lost = c.loop-stamped.lost in
    let within : i < length stamped = omega arith in
    let is : get_or stamped i item ≡ item = sym c.stamped-item.is in record {
      text = λ plain.
          put_two g.W.Write.write_str_gives c.args.f.now c.loop-stamped.f c.write_lines.new.f (lines_of (events_of (take i stamped)))
          (lines_after lost (event_of item.event)) (lines_of (events_of (take (i + 1) stamped)))
          (c.loop-stamped.invariant.text plain) (search rules)
          (lines_next stamped i item lost within is c.loop-stamped.invariant.lost);
      lost = c.lost_port-lost.ensures ∙ lost_next stamped i item within is;
    }
