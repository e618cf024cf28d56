-- Permits to download.
use Rattle.std.specs.Prelude.{◌≡◌, ℕ, ◌==◌, Bool, ◌&&◌, not, if◌then◌else◌, Option, Some, None, IsSomeAnd, Result, Ok, Err}
use Rattle.iol_types.specs.Config.{may_keep_set}
use Rattle.iol_types.specs.DataSet.{SetValue}
use Rattle.iol_types.specs.State.{Stored, Port, port_numbered}
use Rattle.iol_types.specs.declared.config.PortConfig.{PortConfig}
use Rattle.iol_core.specs.Core.{CoreView, live, with_permit, names_device}
use Rattle.iol_core.specs.Permits.{is_taken}
use Rattle.iol_core.specs.declared.permit.Grant.TheVariants.{Download}
use Rattle.iol_core.specs.declared.download.DownloadBegun.{DownloadBegun}
use Rattle.iol_core.specs.declared.download.DownloadFault.{DownloadFault}
use Rattle.iol_core.specs.declared.download.DownloadFault.TheVariants.{NotAllowed, Empty, WrongDevice, Taken, Same, Memory}

-- the set stored for a port, if the port exists and has one (own)
abbrev pub stored_at : Option Port → Option Stored
stored_at None = None
stored_at (Some port) = port.stored

-- the durable set of a port, if it has one (own)
abbrev pub durable_set : CoreView → ℕ → Option Stored
durable_set core port = stored_at (port_numbered core.durable port)

-- a set belongs to a device with these vendor and device IDs (own)
abbrev pub is_of_device : SetValue → ℕ → ℕ → Bool
is_of_device set vendor device = (set.vendor == vendor) && (set.device == device)

-- why the durable set is not downloaded to a device with these IDs and this checksum. The first cause that applies counts:
-- there is no set, or none in the live state; the port or the set names another device; a permit of the port is out;
-- the device has the set's checksum (own)
abbrev pub set_fault : PortConfig → Option Stored → Option Stored → ℕ → ℕ → ℕ → Bool → Option DownloadFault
set_fault config (Some waiting) (Some stored) vendor device checksum taken =
    if not (names_device config vendor device && is_of_device stored.set vendor device) then Some WrongDevice
    else if taken then Some Taken
    else if stored.set.checksum == checksum then Some Same
    else None
set_fault config _ _ vendor device checksum taken = Some Empty

-- why a port gets no permit to download: it does not exist or may not keep a set, or its sets are the cause (own)
abbrev pub download_fault_at : Option Port → Option Stored → ℕ → ℕ → ℕ → Bool → Option DownloadFault
download_fault_at None durable vendor device checksum taken = Some NotAllowed
download_fault_at (Some port) durable vendor device checksum taken =
    if not (may_keep_set port.config) then Some NotAllowed
    else set_fault port.config port.stored durable vendor device checksum taken

-- why no permit to download is granted, by the first cause that applies; `None` if it is granted (own)
abbrev pub download_fault : CoreView → ℕ → ℕ → ℕ → ℕ → Option DownloadFault
download_fault core port vendor device checksum =
    download_fault_at (port_numbered (live core) port) (durable_set core port) vendor device checksum (is_taken core port)

-- a permit to download is granted with the port's durable set; or it is refused, and nothing changes (own)
abbrev pub IsBeginDownload : CoreView → ℕ → ℕ → ℕ → ℕ → CoreView → Result DownloadBegun DownloadFault → Type 0
IsBeginDownload old port vendor device checksum new (Ok begun) =
    (download_fault old port vendor device checksum ≡ None)
    × (begun.permit ≡ port) × IsSomeAnd (durable_set old port) (λ stored. begun.set.value ≡ stored.set)
    × (new ≡ with_permit old port (Some Download))
IsBeginDownload old port vendor device checksum new (Err Memory) = (download_fault old port vendor device checksum ≡ None) × (new ≡ old)
IsBeginDownload old port vendor device checksum new (Err fault) = (download_fault old port vendor device checksum ≡ Some fault)
    × (new ≡ old)
