use Rattle.std.proofs.Common.{◌≡◌, ◌∙◌, ℕ, List, [], ◌∷◌, Bor, refl, rules, tests}
use Rattle.std.specs.List.{list_any}
use Rattle.std.specs.Str.{bytes_eq}
use Rattle.std.proofs.lemmas.Iterator.{YieldsList-from_slice}
use Rattle.std.proofs.lemmas.Iterator.Search.{any_from_yields_List}
use Rattle.std.specs.declared.alloc.Global.{Global}
use Rattle.json.specs.Strict.{keys}
use Rattle.json.specs.Value.{members_view}
use Rattle.json.specs.declared.value.Value.{Value}
use Rattle.iol_script.specs.Table.{is_among}
use Rattle.iol_requests.proofs.object.has_key.Goals as goal

-- a member of an object
abbrev Entry : Type 0
Entry = Bor (List ℕ) × Value Global

-- a search through members is a search through their keys
among_the_keys : (key : List ℕ) (members : List Entry)
    → list_any (λ (member : Entry). bytes_eq member.0.now key) members ≡ is_among (keys (members_view members)) key
among_the_keys key [] = refl
among_the_keys key (member ∷ members) = rw (among_the_keys key members) refl

pub returns : goal.returns
returns c =
    any_from_yields_List (λ (member : Entry). bytes_eq member.0.now c.args.key.now) _ _ _ c.any.ensures.ran
    (YieldsList-from_slice c.args.members.now cc) (λ x b q k. search (rules, tests))
    ∙ among_the_keys c.args.key.now c.args.members.now
