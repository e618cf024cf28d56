use Rattle.std.proofs.Common.{◌≡◌, map, string_bytes}
use Rattle.std.specs.List.{list_all}
use Rattle.iol_script.specs.Table.{is_among, has_only_keys}
use Rattle.toml.specs.View.{table_view}
use Rattle.iol_script.proofs.table.has_only_keys.Given as goal

-- the result depends only on the remaining keys
abbrev pub invariant-loop-key : goal.invariant-loop-key
invariant-loop-key l =
    let listed = map (λ key. key.now) l.keys in
    list_all (is_among listed) (map string_bytes l.key-iterator) ≡ has_only_keys listed (table_view l.table)
