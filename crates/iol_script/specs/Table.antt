-- What a TOML table holds at its keys.
use Rattle.std.specs.Prelude.{ℕ, ℤ, Bool, List, [], ◌∷◌, Option, Some, None, option_and_then}
use Rattle.std.specs.List.{list_any, list_all}
use Rattle.std.specs.Str.{bytes_eq}
use Rattle.toml.specs.Data.{Data, Items, no_items, Members, no_members, member, as_integer, as_str, as_bool, as_array, get_member}

-- the keys of a table (TOML)
abbrev pub keys_of : Members → List (List ℕ)
keys_of no_members = []
keys_of (member key value others) = key ∷ keys_of others

-- a key is one of these (own)
abbrev pub is_among : List (List ℕ) → List ℕ → Bool
is_among keys key = list_any (λ other. bytes_eq other key) keys

-- a table has only these keys (own)
abbrev pub has_only_keys : List (List ℕ) → Members → Bool
has_only_keys keys table = list_all (is_among keys) (keys_of table)

-- the whole number at a key of a table, if there is one (TOML)
abbrev pub integer_at : List ℕ → Members → Option ℤ
integer_at key table = option_and_then as_integer (get_member key table)

-- the text at a key of a table, if there is one (TOML)
abbrev pub text_at : List ℕ → Members → Option (List ℕ)
text_at key table = option_and_then as_str (get_member key table)

-- the values of the array at a key of a table, or none if the key is missing (format, Scripts)
abbrev pub values_of : Option Data → Option Items
values_of None = Some no_items
values_of (Some value) = as_array value

abbrev pub values_at : List ℕ → Members → Option Items
values_at key table = values_of (get_member key table)

-- the truth value at a key of a table, or a default if the key is missing (format, Scripts)
abbrev pub truth_of : Bool → Option Data → Option Bool
truth_of absent None = Some absent
truth_of absent (Some value) = as_bool value

abbrev pub truth_or : Bool → List ℕ → Members → Option Bool
truth_or absent key table = truth_of absent (get_member key table)
