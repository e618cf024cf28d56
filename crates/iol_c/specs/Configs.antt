-- A configuration of a port as C has it.
use Rattle.std.specs.Prelude.{◌&&◌, ◌^◌, ℕ, Bool, true, false, List, length, nat_le, nat_lt, take, Option, None, Some}
use Rattle.iol_types.specs.Config.{mode_octet, mode_of, validation_octet, validation_of}
use Rattle.iol_types.specs.Label.{is_label}
use Rattle.iol_types.specs.declared.config.PortConfig.{PortConfig}
use Rattle.iol_types.specs.declared.config.PortMode.{PortMode}
use Rattle.iol_types.specs.declared.config.Validation.{Validation}
use Rattle.iol_c.specs.Filled.{filled}
use Rattle.iol_c.specs.declared.structs.Config.{Config}

-- a value, if it is valid (own)
abbrev pub checked : {A : Type 0} → Bool → A → Option A
checked true value = Some value
checked false value = None

-- the DeviceID with this number, if it has three octets (own)
abbrev pub device_of : ℕ → Option ℕ
device_of number = checked (nat_lt number (2 ^ 24)) number

-- the label of a configuration, if it has at most 32 octets and each may stand in a label (own)
abbrev pub label_in : Config → List ℕ → Option (List ℕ)
label_in config label = checked (nat_le config.label_count 32 && is_label label) label

abbrev pub label_of : Config → Option (List ℕ)
label_of config = label_in config (take config.label_count config.label)

abbrev pub config_in : ℕ → Option PortMode → Option Validation → Option ℕ → Option (List ℕ) → Option PortConfig
config_in vendor (Some mode) (Some validation) (Some device) (Some label) =
    Some (record { mode = mode; validation = validation; vendor = vendor; device = device; label = label })
config_in vendor mode validation device label = None

-- the configuration that C means, if each of its numbers is in its range (own)
abbrev pub config_of : Config → Option PortConfig
config_of config =
    config_in config.vendor (mode_of config.mode) (validation_of config.validation) (device_of config.device) (label_of config)

-- a configuration as C has it (own)
abbrev pub config_struct : PortConfig → Config
config_struct config = record {
  mode = mode_octet config.mode;
  validation = validation_octet config.validation;
  vendor = config.vendor;
  device = config.device;
  label_count = length config.label;
  label = filled 32 config.label;
}
