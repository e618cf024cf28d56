use Rattle.std.proofs.Common.{◌≡◌, ◌++◌, drop, option_map}
use Rattle.toml.specs.View.{items_view}
use Rattle.iol_script.specs.Devices.{devices_of, said_devices}
use Rattle.iol_script.proofs.devices.read_devices.Given as goal

-- the values give the devices so far, and then those of the remaining values
abbrev pub invariant-loop-value : goal.invariant-loop-value
invariant-loop-value l =
    devices_of (items_view l.values)
    ≡ option_map (λ devices. said_devices l.devices.items ++ devices) (devices_of (items_view (drop l.value-index l.values)))
