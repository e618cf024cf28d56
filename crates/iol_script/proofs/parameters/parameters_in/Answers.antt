use Rattle.std.proofs.Common.{◌≡◌, ◌≢◌, List, [], ◌∷◌, length, Option, Some, None, option_and_then, option_map, refl, arith, rules}
use Rattle.toml.specs.View.{view, items_view}
use Rattle.toml.specs.declared.value.Value.{Value}
use Rattle.iol_types.specs.DataSet.{Entry}
use Rattle.iol_script.specs.Parameter.{parameter_of}
use Rattle.iol_script.specs.Parameters.{parameters_of}
use Rattle.iol_script.proofs.parameters.parameters_in.Goals as goal

-- if the others give no parameters, all of them together give none
none_before : (first : Option Entry) (others : Option (List Entry)) → others ≡ None
    → option_and_then (λ parameter. option_map (λ parameters. parameter ∷ parameters) others) first ≡ None
none_before None others none = refl
none_before (Some parameter) others none = rw none refl

-- keys and octets that are not equal in number give no parameters
parameters_of-unequal : (keys values : List Value) → length keys ≢ length values
    → parameters_of (items_view keys) (items_view values) ≡ None
parameters_of-unequal [] [] unequal = absurd (unequal refl)
parameters_of-unequal [] (value ∷ values) unequal = refl
parameters_of-unequal (key ∷ keys) [] unequal = refl
parameters_of-unequal (key ∷ keys) (value ∷ values) unequal =
    none_before (parameter_of (view key) (view value)) _ (parameters_of-unequal keys values (omega arith))

pub returns-then-keys-values-clause-not_valid : goal.returns-then-keys-values-clause-not_valid
returns-then-keys-values-clause-not_valid c = search (rules, parameters_of-unequal)
