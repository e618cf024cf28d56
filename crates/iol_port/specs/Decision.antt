-- What a port does with the parameters of a device that fits its configuration.
use Rattle.std.specs.Prelude.{ℕ, ◌==◌, ◌&&◌, not, Bool, true, false, if◌then◌else◌, Option, Some, None, is_none}
use Rattle.iol_types.specs.Config.{restores, backs_up}
use Rattle.iol_types.specs.declared.config.Validation.{Validation}
use Rattle.iol_transfer.specs.declared.property.State.{State}
use Rattle.iol_transfer.specs.declared.property.State.TheVariants.{Locked}
use Rattle.iol_port.specs.declared.decision.Decision.{Decision}
use Rattle.iol_port.specs.declared.decision.Decision.TheVariants.{Ready, ReadyLocked, ReadyEmpty, Upload, Download}

-- the Data Storage of a device is locked (standard, Data Storage object)
abbrev pub is_locked : State → Bool
is_locked Locked = true
is_locked _ = false

-- the durable set, if there is one, has this checksum (own)
abbrev pub has_checksum : Option ℕ → ℕ → Bool
has_checksum None checksum = false
has_checksum (Some stored) checksum = stored == checksum

-- what a port does, from its validation, the state, flag and checksum of the device, and the checksum of the durable set,
-- if there is one. The first case that applies counts. First, nothing is kept for the device, or its Data Storage is locked.
-- Under Backup and Restore then: no set is durable, the device asks for an upload, it has the set, or it has another.
-- Under Restore: no set is durable, the device has the set, or it has another (own)
abbrev pub decide : Validation → State → Bool → ℕ → Option ℕ → Decision
decide validation state flag checksum stored =
    if not (restores validation) then Ready
    else if is_locked state then ReadyLocked
    else if backs_up validation && is_none stored then Upload
    else if backs_up validation && flag then Upload
    else if backs_up validation && has_checksum stored checksum then Ready
    else if backs_up validation then Download
    else if is_none stored then ReadyEmpty
    else if has_checksum stored checksum then Ready
    else Download
