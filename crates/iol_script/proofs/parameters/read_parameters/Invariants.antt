use Rattle.std.proofs.Common.{◌≡◌, ◌++◌, drop, option_map}
use Rattle.toml.specs.View.{items_view}
use Rattle.iol_script.specs.Parameters.{parameters_of, entries_of}
use Rattle.iol_script.proofs.parameters.read_parameters.Given as goal

-- the keys and octets give the parameters so far, and then those of the remaining keys and octets
abbrev pub invariant-loop-place : goal.invariant-loop-place
invariant-loop-place l =
    parameters_of (items_view l.keys) (items_view l.values)
    ≡ option_map (λ parameters. entries_of l.parameters.items ++ parameters)
    (parameters_of (items_view (drop l.place l.keys)) (items_view (drop l.place l.values)))
