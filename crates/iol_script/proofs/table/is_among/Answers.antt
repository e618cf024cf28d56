use Rattle.std.proofs.Common.{◌≡◌, ◌∙◌, ℕ, List, [], ◌∷◌, map, Bor, refl}
use Rattle.std.specs.List.{list_any}
use Rattle.std.specs.Str.{bytes_eq}
use Rattle.iol_script.specs.Table.{is_among}
use Rattle.iol_script.proofs.table.is_among.Goals as goal

-- a search through references is a search through what they point to
among_what_is_pointed_to : (keys : List (Bor (List ℕ))) (key : List ℕ)
    → list_any (λ other. bytes_eq other.now key) keys ≡ is_among (map (λ other. other.now) keys) key
among_what_is_pointed_to [] key = refl
among_what_is_pointed_to (other ∷ keys) key = rw (among_what_is_pointed_to keys key)

pub returns : goal.returns
returns c = c.contains.ensures.value ∙ among_what_is_pointed_to c.args.keys.now c.args.key.now
