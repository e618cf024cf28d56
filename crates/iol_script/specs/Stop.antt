-- What the stop of a script says in TOML.
use Rattle.std.specs.Prelude.{ℕ, if◌then◌else◌, List, [], ◌∷◌, codes, Option, Some, None, option_and_then}
use Rattle.std.specs.Str.{bytes_eq}
use Rattle.toml.specs.Data.{Data, Members, as_table}
use Rattle.iol_script.specs.Table.{text_at, has_only_keys}
use Rattle.iol_disk.specs.declared.pick.Pick.{Pick}
use Rattle.iol_disk.specs.declared.pick.Pick.TheVariants.{Old, New, Zero, Pattern}

-- the keys of a stop (format, Scripts)
abbrev pub stop_keys : List (List ℕ)
stop_keys = codes "do" ∷ codes "keep" ∷ []

-- what a stop keeps, by its word (format, Scripts)
abbrev pub keep_of : List ℕ → Option Pick
keep_of word =
    if bytes_eq word (codes "old") then Some Old
    else if bytes_eq word (codes "new") then Some New
    else if bytes_eq word (codes "zero") then Some Zero
    else if bytes_eq word (codes "pattern") then Some Pattern
    else None

-- what the stop in a table keeps (format, Scripts)
abbrev pub stop_in : Members → Option Pick
stop_in table = if has_only_keys stop_keys table then option_and_then keep_of (text_at (codes "keep") table) else None

abbrev pub stop_of_kind : List ℕ → Members → Option Pick
stop_of_kind kind table = if bytes_eq kind (codes "stop") then stop_in table else None

-- what the stop in a value keeps (format, Scripts)
abbrev pub stop_of : Data → Option Pick
stop_of value = option_and_then (λ table. option_and_then (λ kind. stop_of_kind kind table) (text_at (codes "do") table)) (as_table value)
