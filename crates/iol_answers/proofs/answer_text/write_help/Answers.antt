use Rattle.std.proofs.Common.{rules, ◌+◌, ◌<◌, ℕ, [], List, length, take, map, get_or, Bor}
use Rattle.std.specs.List.{flat_map}
use Rattle.std.proofs.lemmas.Grind.{put_two}
use Rattle.iol_answers.specs.AnswerLines.{with_line_feed}
use Rattle.iol_answers.proofs.TextsInOrder.{lines_next}
use Rattle.iol_answers.proofs.answer_text.write_help.Goals as goal

pub loop-text-preserved : goal.loop-text-preserved
loop-text-preserved g c = λ plain.
    let i = c.loop-text.text-index in
    let items = c.help_texts-text-items.result in
    let text : Bor (List ℕ) → List ℕ = λ one. one.now in
    let none : Bor (List ℕ) = record { ref_ptr = (0, 0); now = [] } in
    let within : i < length (map text items) = rw c.help_texts-text-items.ensures c.loop-text-test.true in
    put_two g.W.Write.write_str_gives c.args.f.now c.loop-text.f c.writeln.new.self (flat_map with_line_feed (take i (map text items)))
    (with_line_feed (text (get_or items i none))) (flat_map with_line_feed (take (i + 1) (map text items))) (c.loop-text.invariant plain)
    (search rules) (lines_next text items i none within)
