-- The keys of a table.
use Rattle.std.proofs.Common.{◌≡◌, List, [], ◌∷◌, map, String, Global, string_bytes, refl, ap}
use Rattle.toml.specs.View.{members_view}
use Rattle.toml.specs.declared.value.Value.{Value}
use Rattle.iol_script.specs.Table.{keys_of}

-- the keys of a map's entries
pub keys_of-entries : (entries : List (String Global × Value)) → keys_of (members_view entries)
    ≡ map string_bytes (map (λ entry. entry.0) entries)
keys_of-entries [] = refl
keys_of-entries (entry ∷ entries) = ap (λ keys. string_bytes entry.0 ∷ keys) (keys_of-entries entries)
