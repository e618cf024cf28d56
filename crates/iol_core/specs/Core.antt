-- What a core holds: the durable state, the commands that wait for the disk, and the permits that are out.
use Rattle.std.specs.Prelude.{◌≡◌, ℕ, ◌+◌, ◌-◌, ◌≤◌, ◌==◌, true, Bool, ◌&&◌, List, length, Option, Some, None, IsSomeAnd, slice_get}
use Rattle.std.specs.Prelude.{slice_set}
use Rattle.iol_types.specs.Command.{CommandValue}
use Rattle.iol_types.specs.Config.{may_store_set}
use Rattle.iol_types.specs.State.{State, Port, after, legal, port_numbered}
use Rattle.iol_types.specs.declared.config.PortConfig.{PortConfig}
use Rattle.iol_journal.specs.Numbers.{LAST_NUMBER}
use Rattle.iol_front.specs.Fronts.{Start}
use Rattle.iol_core.specs.Standing.{Stands}
use Rattle.iol_core.specs.declared.core_value.TheConstants.{QUEUE_COMMANDS}
use Rattle.iol_core.specs.declared.permit.Grant.{Grant}
use Rattle.iol_core.specs.declared.permit.Grant.TheVariants.{Upload}
use Rattle.iol_core.specs.declared.permit.UploadGrant.{UploadGrant}
use Rattle.iol_core.specs.declared.stop.StopCause.{StopCause}

-- a core as contracts see it: the durable state and the number of its last command; the commands that wait for the
-- disk, and how many of them are in flight. Further what each port's permit is for, if one is out, why no more is
-- accepted, and the list that its own pass has seen (own)
pub record CoreView : Type 0 where
  pub durable : State
  pub number : ℕ
  pub queue : List CommandValue
  pub flight : ℕ
  pub permits : List (Option Grant)
  pub stopped : Option StopCause
  pub seen : List CommandValue

-- the live state: the durable one after the waiting commands (own)
abbrev pub live : CoreView → State
live core = after core.durable core.queue

-- the number of the last waiting command, or of the last durable one if none waits (own)
abbrev pub live_number : CoreView → ℕ
live_number core = core.number + length core.queue

-- what a port's permit is for, if one is out (own)
abbrev pub out_at : Option (Option Grant) → Option Grant
out_at None = None
out_at (Some out) = out

abbrev pub permit_at : CoreView → ℕ → Option Grant
permit_at core port = out_at (slice_get core.permits (port - 1))

-- the core with this permit of a port out, or with none out (own)
abbrev pub with_permit : CoreView → ℕ → Option Grant → CoreView
with_permit core port permit = record core { permits = slice_set core.permits (port - 1) permit }

-- a configuration names a device with these vendor and device IDs (own)
abbrev pub names_device : PortConfig → ℕ → ℕ → Bool
names_device config vendor device = (config.vendor == vendor) && (config.device == device)

-- an upload grant fits a port: its revision is at most the port's, and if they are equal, the port may store a set of
-- the grant's device (own)
pub record FitsPort (grant : UploadGrant) (port : Port) : Type 0 where
  pub revision : grant.revision ≤ port.revision
  pub current : grant.revision ≡ port.revision → (may_store_set port.config && names_device port.config grant.vendor grant.device) ≡ true

-- a port's permit fits this state: an upload grant belongs to this port and fits it; any other permit, or none, fits
-- (own)
abbrev pub FitsAt : State → ℕ → Option Grant → Type 0
FitsAt state port (Some (Upload grant)) = (grant.port ≡ port) × IsSomeAnd (port_numbered state port) (FitsPort grant)
FitsAt state port _ = Unit {0}

-- what always holds of a core whose front has this start: the durable state is the state after the first commands
-- that its pass has seen. Each command that waits passes in the state that it meets, at most 64 wait, and no number
-- is over 2^62. Each port has one place for a permit, and an upload grant fits its port in the live state (own)
pub record IsCore (start : Start) (core : CoreView) : Type 0 where
  pub stands : Stands start core.seen core.number core.durable
  pub legal : legal core.durable core.queue ≡ true
  pub few : length core.queue ≤ QUEUE_COMMANDS
  pub bound : live_number core ≤ LAST_NUMBER
  pub flight : core.flight ≤ length core.queue
  pub places : length core.permits ≡ length core.durable
  pub permits : (port : ℕ) → 1 ≤ port → FitsAt (live core) port (permit_at core port)
