-- The steps of a script, and the stop after them.
use Rattle.std.specs.Prelude.{List, [], ◌∷◌, Option, Some, None, option_and_then, option_map}
use Rattle.toml.specs.Data.{Data, Items, no_items, item}
use Rattle.iol_disk.specs.declared.pick.Pick.{Pick}
use Rattle.iol_disk.specs.declared.pick.Pick.TheVariants.{New}
use Rattle.iol_script.specs.Step.{step_of}
use Rattle.iol_script.specs.Stop.{stop_of}
use Rattle.iol_script.specs.declared.step.Step.{Step}

-- the last value, unless it is a stop, and what the stop keeps (format, Scripts)
abbrev pub without_stop : Data → Option Pick → Items × Pick
without_stop value (Some keep) = (no_items, keep)
without_stop value None = (item value no_items, New)

-- the values before the stop, which is the last one, and what it keeps; without a stop, a script keeps what is new
-- (format, Scripts)
abbrev pub before_stop : Items → Items × Pick
before_stop no_items = (no_items, New)
before_stop (item value no_items) = without_stop value (stop_of value)
before_stop (item value values) = (item value (before_stop values).0, (before_stop values).1)

-- the steps in values, if each value is one (format, Scripts)
abbrev pub steps_of : Items → Option (List Step)
steps_of no_items = Some []
steps_of (item value values) = option_and_then (λ step. option_map (λ steps. step ∷ steps) (steps_of values)) (step_of value)
