use Rattle.std.proofs.Common.{◌≡◌, ◌∙◌, List, [], ◌∷◌, refl, rules, tests}
use Rattle.std.specs.List.{list_any}
use Rattle.std.specs.Map.{keys_of}
use Rattle.std.proofs.lemmas.Iterator.{YieldsList-from_slice}
use Rattle.std.proofs.lemmas.Iterator.Search.{any_from_yields_List}
use Rattle.iol_types.specs.Key.{same_key}
use Rattle.iol_types.specs.declared.key.Key.{Key}
use Rattle.iol_script.specs.Parameters.{entries_of}
use Rattle.iol_script.specs.declared.parameter.Parameter.{Parameter}
use Rattle.iol_script.proofs.parameters.has_key.Goals as goal

-- a search through parameters is a search through their keys
among_the_keys : (key : Key) (parameters : List Parameter)
    → list_any (λ (parameter : Parameter). same_key key parameter.key) parameters
    ≡ list_any (same_key key) (keys_of (entries_of parameters))
among_the_keys key [] = refl
among_the_keys key (parameter ∷ parameters) = rw (among_the_keys key parameters)

pub returns : goal.returns
returns c =
    any_from_yields_List (λ (parameter : Parameter). same_key c.args.key parameter.key) _ _ _ c.any.ensures.ran
    (YieldsList-from_slice c.args.parameters.now cc) (λ x b q k. search (rules, tests))
    ∙ among_the_keys c.args.key c.args.parameters.now
