use Rattle.std.proofs.Common.{◌≡◌, map, take}
use Rattle.serde_json.specs.Data.{string}
use Rattle.serde_json.specs.View.{view}
use Rattle.iol_answers.proofs.answer_object.help_of.Given as goal

-- the requests before this one
abbrev pub invariant-loop-text : goal.invariant-loop-text
invariant-loop-text l = map view l.texts.items ≡ map string (take l.text-index (map (λ text. text.now) l.text-items))
