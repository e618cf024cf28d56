-- The ports of the worked examples.
use Rattle.std.specs.Prelude.{ℕ, Bool, true, Option, Some}
use Rattle.iol_types.specs.Examples.{example_config}
use Rattle.iol_link.specs.Examples.{example_page}
use Rattle.iol_link.specs.Page.{PageValue}
use Rattle.iol_transfer.specs.Property.{PropertyValue}
use Rattle.iol_transfer.specs.declared.property.State.TheVariants.{Inactive}
use Rattle.iol_core.specs.declared.permit.UploadGrant.{UploadGrant}
use Rattle.iol_core.specs.declared.port.Work.{Work}
use Rattle.iol_port.specs.Stage.{Stage, PortValue, machine_at}
use Rattle.iol_port.specs.declared.stage.FoundDevice.{FoundDevice}

-- for worked examples: what port 1 is to work with, at revision 1 and with a durable set of this checksum, if there is one
-- (own)
abbrev pub example_work : Option ℕ → Work
example_work checksum = record { config = example_config; revision = 1; checksum = checksum }

-- for worked examples: the page of the device that port 1 is configured for (own)
abbrev pub fitting_page : PageValue
fitting_page = example_page 0x11 true

-- for worked examples: the State_Property of a device that asks for an upload (own)
abbrev pub flagged : PropertyValue
flagged = record { state = Inactive; flag = true }

-- for worked examples: the device of port 1, found on connection 3 (own)
abbrev pub example_found : Option ℕ → FoundDevice
example_found checksum = record { work = example_work checksum; page = fitting_page; connection = 3 }

-- for worked examples: a permit of port 1 to upload from it (own)
abbrev pub example_grant : UploadGrant
example_grant = record { port = 1; revision = 1; vendor = 500; device = 43981; connection = 3 }

-- for worked examples: the machine of port 1 at a stage, started under revision 1, with a kept request for an upload or
-- without one (own)
abbrev pub example_machine : Bool → Stage → PortValue
example_machine requested stage = machine_at 1 (Some 1) requested stage
