use Rattle.std.proofs.Common.{◌≡◌, ◌<◌, ◌++◌, ◌∷◌, ◌∙◌, ap, ℕ, [], List, length, map, get_or, Bor}
use Rattle.serde_json.specs.Data.{Data, string}
use Rattle.std.proofs.lemmas.List.{map-append}
use Rattle.serde_json.specs.View.{view}
use Rattle.iol_answers.proofs.TextsInOrder.{strings_next}
use Rattle.iol_answers.proofs.answer_object.help_of.Goals as goal

pub loop-text-preserved : goal.loop-text-preserved
loop-text-preserved c =
    let i = c.loop-text.text-index in
    let items = c.help_texts-text-items.result in
    let text : Bor (List ℕ) → List ℕ = λ one. one.now in
    let none : Bor (List ℕ) = record { ref_ptr = (0, 0); now = [] } in
    let within : i < length (map text items) = rw c.help_texts-text-items.ensures c.loop-text-test.true in
    let more : map view c.push.new.self.items ≡ map view c.loop-text.texts.items ++ string (text (get_or items i none)) ∷ [] =
    ap (map view) c.in_ok-push.ensures.items ∙ map-append view c.loop-text.texts.items (c.in_ok-try_from_str.field-0 ∷ [])
    ∙ ap (λ (found : Data). map view c.loop-text.texts.items ++ found ∷ []) c.in_ok-try_from_str.ensures in
    more ∙ ap (λ (before : List Data). before ++ string (text (get_or items i none)) ∷ []) c.loop-text.invariant
    ∙ strings_next text items i none within
