use Rattle.std.proofs.Common.{◌≡◌, ℕ, ◌<◌, ◌+◌, ◌++◌, List, [], ◌∷◌, length, take, get_or, sym, ap, ◌∙◌, arith, rules}
use Rattle.std.specs.Prelude.{codes}
use Rattle.std.proofs.lemmas.Grind.{put_two}
use Rattle.std.proofs.lemmas.List.{take_more, flat_map_more}
use Rattle.iol_view.specs.Map.{line_text, lines_text}
use Rattle.iol_view.specs.declared.map_lines.Line.{Line}
use Rattle.iol_view.proofs.map_text.write_lines.Goals as goal

-- the lines before a place, and then the line at it
lines_next : (lines : List Line) (i : ℕ) (item : Line) → i < length lines → get_or lines i item ≡ item
    → lines_text (take i lines) ++ (line_text item ++ codes "\n") ≡ lines_text (take (i + 1) lines)
lines_next lines i item within is =
    flat_map_more (λ (line : Line). line_text line ++ codes "\n") [] (take i lines) item
    ∙ ap lines_text (sym (take_more lines i item within ∙ ap (λ (line : Line). take i lines ++ line ∷ []) is))

pub loop-line-preserved : goal.loop-line-preserved
loop-line-preserved g c = λ plain.
    let i = c.loop-line.line-index in
    let lines = c.args.lines.now in
    let item = c.line-item.result in
    let within : i < length lines = omega arith in
    put_two g.W.Write.write_str_gives c.args.f.now c.loop-line.f c.writeln.new.self (lines_text (take i lines))
    (line_text item ++ codes "\n") (lines_text (take (i + 1) lines)) (c.loop-line.invariant plain) (search rules)
    (lines_next lines i item within (sym c.line-item.is))
