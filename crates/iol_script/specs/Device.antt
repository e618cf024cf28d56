-- A device of a script.
use Rattle.std.specs.Prelude.{ℕ, Bool, true, false, if◌then◌else◌, List, [], ◌∷◌, codes, Option, None, option_and_then, option_map}
use Rattle.toml.specs.Data.{Data, Members, as_table}
use Rattle.iol_types.specs.DataSet.{Entry}
use Rattle.iol_script.specs.Table.{has_only_keys, truth_or}
use Rattle.iol_script.specs.Number.{port_in, vendor_in, device_in, octet_or, calls_at}
use Rattle.iol_script.specs.Parameters.{parameters_in, entries_of}
use Rattle.iol_script.specs.declared.device.Device.{Device}
use Rattle.iol_script.specs.declared.device.TheConstants.{USUAL_REVISION}

-- what a script says about a device: its port, its numbers, whether it supports ISDUs, has its flag set and is locked,
-- its parameters, and the numbers of calls after which it is lost and raises its event (format, Scripts)
pub record SaidDevice : Type 0 where
  pub port : ℕ
  pub vendor : ℕ
  pub device : ℕ
  pub revision : ℕ
  pub isdu : Bool
  pub flag : Bool
  pub locked : Bool
  pub parameters : List Entry
  pub answers : Option ℕ
  pub event : Option ℕ

-- the keys of a device (format, Scripts)
abbrev pub device_keys : List (List ℕ)
device_keys =
    codes "port" ∷ codes "vendor" ∷ codes "device" ∷ codes "revision" ∷ codes "isdu" ∷ codes "flag" ∷ codes "locked"
    ∷ codes "keys" ∷ codes "values" ∷ codes "answers" ∷ codes "event" ∷ []

-- the device in a table, with these parameters; keys that have a default may be missing (format, Scripts)
abbrev pub device_with : List Entry → Members → Option SaidDevice
device_with parameters table =
    option_and_then (λ port.
    option_and_then (λ vendor.
    option_and_then (λ device.
    option_and_then (λ revision.
    option_and_then (λ isdu.
    option_and_then (λ flag.
    option_and_then (λ locked.
    option_and_then (λ answers.
    option_map (λ event. record {
      port = port;
      vendor = vendor;
      device = device;
      revision = revision;
      isdu = isdu;
      flag = flag;
      locked = locked;
      parameters = parameters;
      answers = answers;
      event = event;
    })
    (calls_at (codes "event") table)) (calls_at (codes "answers") table)) (truth_or false (codes "locked") table))
    (truth_or false (codes "flag") table)) (truth_or true (codes "isdu") table)) (octet_or USUAL_REVISION (codes "revision") table))
    (device_in table)) (vendor_in table)) (port_in table)

-- the device in a table (format, Scripts)
abbrev pub device_by : Members → Option SaidDevice
device_by table =
    if has_only_keys device_keys table then
    option_and_then (λ parameters. device_with parameters table) (parameters_in table)
    else None

-- the device in a value (format, Scripts)
abbrev pub device_of : Data → Option SaidDevice
device_of value = option_and_then device_by (as_table value)

-- what the script says about a device that was read (format, Scripts)
abbrev pub said_device : Device → SaidDevice
said_device device = record {
  port = device.port;
  vendor = device.vendor;
  device = device.device;
  revision = device.revision;
  isdu = device.isdu;
  flag = device.flag;
  locked = device.locked;
  parameters = entries_of device.parameters.items;
  answers = device.answers;
  event = device.event;
}
