-- Port configurations: their octets and ranges, and when a parameter set stays after a change of configuration.
use Rattle.std.specs.Prelude.{◌≡◌, ℕ, ◌<◌, ◌^◌, ◌==◌, ◌&&◌, Bool, true, false, [], ◌∷◌, Option, find}
use Rattle.iol_types.specs.Numbers.{IsDeviceNumber}
use Rattle.iol_types.specs.Label.{is_label}
use Rattle.iol_types.specs.declared.config.PortConfig.{PortConfig}
use Rattle.iol_types.specs.declared.config.PortMode.{PortMode}
use Rattle.iol_types.specs.declared.config.PortMode.TheVariants.{Deactivated, IolManual, IolAutostart, DigitalInput, DigitalOutput}
use Rattle.iol_types.specs.declared.config.Validation.{Validation}
use Rattle.iol_types.specs.declared.config.Validation.TheVariants.{NoCheck, TypeCompatibleV10, TypeCompatibleV11, BackupAndRestore, Restore}

-- the octet of a mode (standard, port configuration)
abbrev pub mode_octet : PortMode → ℕ
mode_octet Deactivated = 0
mode_octet IolManual = 1
mode_octet IolAutostart = 2
mode_octet DigitalInput = 3
mode_octet DigitalOutput = 4

-- the mode, if any, that has this octet (standard, port configuration)
abbrev pub mode_of : ℕ → Option PortMode
mode_of octet =
    find (λ mode. mode_octet mode == octet) (Deactivated ∷ IolManual ∷ IolAutostart ∷ DigitalInput ∷ DigitalOutput ∷ [])

-- the octet of a validation (standard, port configuration)
abbrev pub validation_octet : Validation → ℕ
validation_octet NoCheck = 0
validation_octet TypeCompatibleV10 = 1
validation_octet TypeCompatibleV11 = 2
validation_octet BackupAndRestore = 3
validation_octet Restore = 4

-- the validation, if any, that has this octet (standard, port configuration)
abbrev pub validation_of : ℕ → Option Validation
validation_of octet =
    find (λ validation. validation_octet validation == octet) (NoCheck ∷ TypeCompatibleV10 ∷ TypeCompatibleV11 ∷ BackupAndRestore ∷ Restore
    ∷ [])

-- the numbers of a configuration are in their ranges, and its label is valid (standard, port configuration; format,
-- Records)
pub record IsConfig (config : PortConfig) : Type 0 where
  pub vendor : config.vendor < 2 ^ 16
  pub device : IsDeviceNumber config.device
  pub label : is_label config.label ≡ true

-- a device's parameters are kept only in the mode IOL_MANUAL (standard, port configuration)
abbrev pub is_manual : PortMode → Bool
is_manual IolManual = true
is_manual _ = false

-- a device's parameters are restored under Backup and Restore, and under Restore (standard, port configuration)
abbrev pub restores : Validation → Bool
restores BackupAndRestore = true
restores Restore = true
restores _ = false

-- a device's parameters are backed up only under Backup and Restore (standard, port configuration)
abbrev pub backs_up : Validation → Bool
backs_up BackupAndRestore = true
backs_up _ = false

-- a port with this configuration may store a parameter set: it is IOL_MANUAL with Backup and Restore (own)
abbrev pub may_store_set : PortConfig → Bool
may_store_set config = is_manual config.mode && backs_up config.validation

-- a port with this configuration may have a parameter set: it is IOL_MANUAL with Backup and Restore, or with Restore
-- (own)
abbrev pub may_keep_set : PortConfig → Bool
may_keep_set config = is_manual config.mode && restores config.validation

-- a port keeps its parameter set under a new configuration: both the old and the new one may have a set, and they name
-- the same vendor and device; the labels do not matter (own)
abbrev pub keeps_set : PortConfig → PortConfig → Bool
keeps_set old new =
    may_keep_set old && may_keep_set new && (old.vendor == new.vendor) && (old.device == new.device)
