use Rattle.std.proofs.Common.{rules, ◌≡◌, ◌+◌, sym, ◌∙◌, take, get_or}
use Rattle.std.proofs.lemmas.Grind.{put_two}
use Rattle.iol_explain.specs.Explained.{told_lines, told_text}
use Rattle.iol_explain.specs.Telling.{first}
use Rattle.iol_explain.proofs.ToldLines.{told_next, telling_next}
use Rattle.iol_explain.proofs.explained.write_lines.Goals as goal

pub loop-place-preserved : goal.loop-place-preserved
loop-place-preserved g c =
    let i = c.loop-place.place in
    let events = c.args.events.now in
    let before = c.args.events_before.now in
    let geometry = c.args.geometry in
    let calls = c.args.calls.now in
    let item = c.index-events-place.result in
    let telling = c.loop-place.telling in
    let told = c.calls_before-told.result in
    let since = c.calls_between-since.result.now in
    let within = c.loop-place-test.true in
    let is : get_or events i item ≡ item = sym c.index-events-place.is in
    let at = c.loop-place.invariant.telling in record {
      text = λ plain.
          put_two g.W.Write.write_str_gives c.args.f.now c.loop-place.f c.write_told.new.f
          (told_lines before geometry calls first 0 (take i events)) (told_text geometry since telling item)
          (told_lines before geometry calls first 0 (take (i + 1) events)) (c.loop-place.invariant.text plain) (search rules)
          (told_next before geometry calls events i item telling told since within is at c.calls_before-told.ensures
          c.calls_between-since.ensures);
      telling =
          c.tell.ensures ∙ telling_next before events i item telling told within is at c.calls_before-told.ensures;
    }
