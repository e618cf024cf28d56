use Rattle.std.proofs.Common.{◌≡◌, ◌++◌, drop, option_map}
use Rattle.toml.specs.View.{items_view}
use Rattle.iol_script.specs.Steps.{steps_of}
use Rattle.iol_script.proofs.steps.read_steps.Given as goal

-- the values give the steps so far, and then those of the remaining values
abbrev pub invariant-loop-value : goal.invariant-loop-value
invariant-loop-value l =
    steps_of (items_view l.values) ≡ option_map (λ steps. l.steps.items ++ steps) (steps_of (items_view (drop l.value-index l.values)))
