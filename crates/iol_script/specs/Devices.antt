-- The devices of a script.
use Rattle.std.specs.Prelude.{List, [], ◌∷◌, map, Option, Some, option_and_then, option_map}
use Rattle.toml.specs.Data.{Items, no_items, item}
use Rattle.iol_script.specs.Device.{SaidDevice, device_of, said_device}
use Rattle.iol_script.specs.declared.device.Device.{Device}

-- the devices in values, if each value is one (format, Scripts)
abbrev pub devices_of : Items → Option (List SaidDevice)
devices_of no_items = Some []
devices_of (item value values) = option_and_then (λ device. option_map (λ devices. device ∷ devices) (devices_of values)) (device_of value)

-- what the script says about devices that were read (format, Scripts)
abbrev pub said_devices : List Device → List SaidDevice
said_devices devices = map said_device devices
