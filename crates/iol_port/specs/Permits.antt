-- Permits of ports, between a core and the machines that hold them.
use Rattle.std.specs.Prelude.{◌≡◌, ℕ, Option, Some, None}
use Rattle.iol_core.specs.Core.{CoreView, permit_at}
use Rattle.iol_core.specs.declared.permit.Grant.{Grant}
use Rattle.iol_core.specs.declared.permit.Grant.TheVariants.{Upload, Download}
use Rattle.iol_port.specs.declared.action.Input.{Input}
use Rattle.iol_port.specs.declared.action.Input.TheVariants as input
use Rattle.iol_port.specs.declared.stage.Held.{Held}
use Rattle.iol_port.specs.declared.stage.Held.TheVariants as held

-- what the core has recorded for a permit that is held (own)
abbrev pub grant_of : Held → Grant
grant_of (held.Upload grant) = Upload grant
grant_of (held.Download port) = Download

-- a permit belongs to this port (own)
abbrev pub IsOf : ℕ → Held → Type 0
IsOf port (held.Upload grant) = grant.port ≡ port
IsOf port (held.Download own) = own ≡ port

-- the core has given this port exactly the permit that is held, if one is held (own)
abbrev pub HasOut : CoreView → ℕ → Option Held → Type 0
HasOut core port None = permit_at core port ≡ None
HasOut core port (Some holder) = (permit_at core port ≡ Some (grant_of holder)) × IsOf port holder

-- an input is from the link or the device, or wakes the machine: it is no reply of the core (own)
abbrev pub IsOfLink : Input → Type 0
IsOfLink (input.Reply reply) = ⊥
IsOfLink _ = Unit {0}
