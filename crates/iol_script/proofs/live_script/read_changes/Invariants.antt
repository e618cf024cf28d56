use Rattle.std.proofs.Common.{◌≡◌, ◌++◌, drop, option_map}
use Rattle.toml.specs.View.{items_view}
use Rattle.iol_script.specs.LiveScript.{changes_of}
use Rattle.iol_script.proofs.live_script.read_changes.Given as goal

-- the values give the changes so far, and then those of the remaining values
abbrev pub invariant-loop-value : goal.invariant-loop-value
invariant-loop-value l =
    changes_of (items_view l.values)
    ≡ option_map (λ changes. l.changes.items ++ changes) (changes_of (items_view (drop l.value-index l.values)))
