-- A parameter of a device: its key and its octets.
use Rattle.std.specs.Prelude.{ℕ, ◌^◌, nat_le, if◌then◌else◌, List, length, Option, Some, None, option_and_then, option_map}
use Rattle.std.specs.Result.{result_ok}
use Rattle.hex.specs.Hex.{decode_of}
use Rattle.toml.specs.Data.{Data, Items, no_items, item, as_array, as_str}
use Rattle.iol_types.specs.Key.{is_reserved}
use Rattle.iol_types.specs.DataSet.{Entry}
use Rattle.iol_types.specs.declared.key.Key.{Key}
use Rattle.iol_types.specs.declared.data_set.TheConstants.{MOST_ENTRY_OCTETS}
use Rattle.iol_script.specs.Number.{number_of}
use Rattle.iol_script.specs.declared.parameter.Parameter.{Parameter}

-- this key, if it is not reserved (own)
abbrev pub free_key : Key → Option Key
free_key key = if is_reserved key then None else Some key

-- the key of an Index and a Subindex, if it is not reserved (format, Scripts)
abbrev pub key_of_pair : Data → Data → Option Key
key_of_pair first second =
    option_and_then (λ index. option_and_then (λ subindex. free_key (record { index = index; subindex = subindex }))
    (number_of (2 ^ 8) second)) (number_of (2 ^ 16) first)

-- the key in values: exactly two, an Index and a Subindex (format, Scripts)
abbrev pub key_of_items : Items → Option Key
key_of_items no_items = None
key_of_items (item first no_items) = None
key_of_items (item first (item second no_items)) = key_of_pair first second
key_of_items (item first (item second (item third others))) = None

abbrev pub key_of : Data → Option Key
key_of value = option_and_then key_of_items (as_array value)

-- these octets, if there are at most 232 (own)
abbrev pub short_octets : List ℕ → Option (List ℕ)
short_octets octets = if nat_le (length octets) MOST_ENTRY_OCTETS then Some octets else None

-- the octets that a text writes: two hexadecimal digits of either case for each, and nothing else (format, Scripts)
abbrev pub octets_in : List ℕ → Option (List ℕ)
octets_in text = option_and_then short_octets (result_ok (decode_of text))

abbrev pub octets_of : Data → Option (List ℕ)
octets_of value = option_and_then octets_in (as_str value)

-- the parameter in two values: its key and its octets (format, Scripts)
abbrev pub parameter_of : Data → Data → Option Entry
parameter_of key octets = option_and_then (λ key. option_map (λ octets. (key, octets)) (octets_of octets)) (key_of key)

-- the key and the octets of a parameter that was read (format, Scripts)
abbrev pub entry_of : Parameter → Entry
entry_of parameter = (parameter.key, parameter.octets.items)
