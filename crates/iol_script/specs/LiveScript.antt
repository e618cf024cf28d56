-- What a script says to a master that runs in threads.
use Rattle.std.specs.Prelude.{ℕ, if◌then◌else◌, List, [], ◌∷◌, codes, Option, Some, None, option_and_then, option_map}
use Rattle.toml.specs.Data.{Data, Items, no_items, item, Members}
use Rattle.toml.specs.Parse.{parse_document}
use Rattle.iol_types.specs.declared.command.Change.{Change}
use Rattle.iol_script.specs.Device.{SaidDevice}
use Rattle.iol_script.specs.Devices.{devices_of, said_devices}
use Rattle.iol_script.specs.Script.{script_keys}
use Rattle.iol_script.specs.Step.{step_in, step_of}
use Rattle.iol_script.specs.Table.{has_only_keys, values_at}
use Rattle.iol_script.specs.declared.live_script.LiveScript.{LiveScript}
use Rattle.iol_script.specs.declared.step.Step.{Step}
use Rattle.iol_script.specs.declared.step.Step.TheVariants.{Ask, Port, Flush, Drain}

-- what such a script says: the devices, and the changes that clients request (format, Scripts)
pub record SaidLive : Type 0 where
  pub devices : List SaidDevice
  pub changes : List Change

-- the change that a step requests, if the step is a client's; steps of ports and of the flusher request none (format, Scripts)
abbrev pub change_by : Step → Option Change
change_by (Ask change) = Some change
change_by (Port port times) = None
change_by (Flush times) = None
change_by Drain = None

-- the change that the table of a step requests, if the step is a client's (format, Scripts)
abbrev pub change_in : Members → Option Change
change_in table = option_and_then change_by (step_in table)

-- the change that the value of a step requests, if the step is a client's (format, Scripts)
abbrev pub change_of : Data → Option Change
change_of value = option_and_then change_by (step_of value)

-- the changes that the values of steps request, if each step is a client's (format, Scripts)
abbrev pub changes_of : Items → Option (List Change)
changes_of no_items = Some []
changes_of (item value values) =
    option_and_then (λ change. option_map (λ changes. change ∷ changes) (changes_of values)) (change_of value)

-- what a table says, if it has only the keys of a script; its numbers and its failing call are not read
-- (format, Scripts)
abbrev pub live_by : Members → Option SaidLive
live_by table =
    if has_only_keys script_keys table then
    option_and_then (λ devices.
    option_map (λ changes. record { devices = devices; changes = changes })
    (option_and_then changes_of (values_at (codes "step") table)))
    (option_and_then devices_of (values_at (codes "device") table))
    else None

-- what a text says, if it is TOML and such a script (format, Scripts)
abbrev pub live_in : List ℕ → Option SaidLive
live_in text = option_and_then live_by (parse_document text)

-- what a script that was read says (format, Scripts)
abbrev pub live_of : LiveScript → SaidLive
live_of script = record { devices = said_devices script.devices.items; changes = script.changes.items }
