-- The next text of the help.
use Rattle.std.proofs.Common.{◌≡◌, ◌+◌, ◌<◌, ℕ, List, [], ◌∷◌, ◌++◌, map, length, take, get_or, sym, ap, ◌∙◌}
use Rattle.std.specs.List.{flat_map}
use Rattle.std.proofs.Math.ListN.{get_or-map}
use Rattle.std.proofs.lemmas.List.{take_more, flat_map_more, map-append}
use Rattle.serde_json.specs.Data.{string}
use Rattle.iol_answers.specs.AnswerLines.{with_line_feed}

-- the texts before a place, and then the text at it
texts_next : {X : Type 0} (text : X → List ℕ) (items : List X) (place : ℕ) (other : X) → place < length (map text items)
    → take (place + 1) (map text items) ≡ take place (map text items) ++ text (get_or items place other) ∷ []
texts_next text items place other within =
    take_more (map text items) place (text other) within
    ∙ ap (λ (found : List ℕ). take place (map text items) ++ found ∷ []) (get_or-map text items place other)

-- the lines of the texts before a place, and then that of the text at it
pub lines_next : {X : Type 0} (text : X → List ℕ) (items : List X) (place : ℕ) (other : X) → place < length (map text items)
    → flat_map with_line_feed (take place (map text items)) ++ with_line_feed (text (get_or items place other))
    ≡ flat_map with_line_feed (take (place + 1) (map text items))
lines_next text items place other within =
    flat_map_more with_line_feed [] (take place (map text items)) (text (get_or items place other))
    ∙ sym (ap (flat_map with_line_feed) (texts_next text items place other within))

-- the texts before a place as JSON, and then the text at it
pub strings_next : {X : Type 0} (text : X → List ℕ) (items : List X) (place : ℕ) (other : X) → place < length (map text items)
    → map string (take place (map text items)) ++ string (text (get_or items place other)) ∷ []
    ≡ map string (take (place + 1) (map text items))
strings_next text items place other within =
    sym (ap (map string) (texts_next text items place other within)
    ∙ map-append string (take place (map text items)) (text (get_or items place other) ∷ []))
