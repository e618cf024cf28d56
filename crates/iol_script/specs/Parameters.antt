-- The parameters of a device.
use Rattle.std.specs.Prelude.{Bool, true, not, ◌&&◌, nat_le, if◌then◌else◌, List, [], ◌∷◌, length, map, codes, Option, Some, None}
use Rattle.std.specs.Prelude.{option_and_then, option_map}
use Rattle.std.specs.List.{list_any}
use Rattle.std.specs.Map.{keys_of}
use Rattle.toml.specs.Data.{Items, no_items, item, Members}
use Rattle.iol_types.specs.Key.{same_key}
use Rattle.iol_types.specs.DataSet.{Entry}
use Rattle.iol_types.specs.declared.key.Key.{Key}
use Rattle.iol_script.specs.Table.{values_at}
use Rattle.iol_script.specs.Parameter.{parameter_of, entry_of}
use Rattle.iol_script.specs.declared.parameter.Parameter.{Parameter}
use Rattle.iol_script.specs.declared.parameters.TheConstants.{MOST_PARAMETERS}

-- the parameters that keys and octets give, if they are equal in number (format, Scripts)
abbrev pub parameters_of : Items → Items → Option (List Entry)
parameters_of no_items no_items = Some []
parameters_of no_items (item value values) = None
parameters_of (item key keys) no_items = None
parameters_of (item key keys) (item value values) =
    option_and_then (λ parameter. option_map (λ parameters. parameter ∷ parameters) (parameters_of keys values)) (parameter_of key value)

-- all keys are distinct (own)
abbrev pub are_distinct : List Key → Bool
are_distinct [] = true
are_distinct (key ∷ keys) = not (list_any (same_key key) keys) && are_distinct keys

-- parameters that a device may have: at most 70, with distinct keys (format, Scripts)
abbrev pub of_device : List Entry → Option (List Entry)
of_device parameters =
    if nat_le (length parameters) MOST_PARAMETERS && are_distinct (keys_of parameters) then Some parameters else None

-- the parameters in the table of a device, at `keys` and `values` (format, Scripts)
abbrev pub parameters_in : Members → Option (List Entry)
parameters_in table =
    option_and_then (λ keys. option_and_then (λ values. option_and_then of_device (parameters_of keys values))
    (values_at (codes "values") table)) (values_at (codes "keys") table)

-- the keys and octets of parameters that were read (format, Scripts)
abbrev pub entries_of : List Parameter → List Entry
entries_of parameters = map entry_of parameters
