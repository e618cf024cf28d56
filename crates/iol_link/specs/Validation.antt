-- What the validation of a port requires of a device.
use Rattle.std.specs.Prelude.{ℕ, ◌==◌, ◌&&◌, not, nat_le, nat_lt, Bool, if◌then◌else◌, Option, Some, None}
use Rattle.iol_types.specs.Config.{validation_octet}
use Rattle.iol_types.specs.declared.config.PortConfig.{PortConfig}
use Rattle.iol_link.specs.Page.{PageValue}
use Rattle.iol_link.specs.declared.validation.IdentFault.{IdentFault}
use Rattle.iol_link.specs.declared.validation.IdentFault.TheVariants.{Vendor, Device, Revision, NoIsdu}

-- the configured validation is the one with this octet or a later one; each requires what those before it require (own)
abbrev pub asks_from : ℕ → PortConfig → Bool
asks_from octet config = nat_le octet (validation_octet config.validation)

-- the first reason why a device with this page is not the one that the configuration requires, if any: from validation 1 on
-- the vendor, then the device; from 2 on a RevisionID below 11; from 3 on that ISDU is not supported (own)
abbrev pub ident_fault : PortConfig → PageValue → Option IdentFault
ident_fault config page =
    if asks_from 1 config && not (page.vendor == config.vendor) then Some Vendor
    else if asks_from 1 config && not (page.device == config.device) then Some Device
    else if asks_from 2 config && nat_lt page.revision 0x11 then Some Revision
    else if asks_from 3 config && not page.has_isdu then Some NoIsdu
    else None
