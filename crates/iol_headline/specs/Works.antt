-- The work that a port gets, by what was accepted and acknowledged.
use Rattle.std.specs.Prelude.{◌≡◌, ℕ, List, [], ◌∷◌, Some}
use Rattle.std.specs.Option.{option_map}
use Rattle.iol_types.specs.Command.{CommandValue, Configure}
use Rattle.iol_types.specs.State.{State, Port, after, port_numbered}
use Rattle.iol_core.specs.Downloads.{stored_at}
use Rattle.iol_core.specs.Events.{Event, Attended, Stamp}
use Rattle.iol_core.specs.Statuses.{Work}
use Rattle.iol_core.specs.Words.{accepted, durable}

-- none of these commands configures this port (own)
abbrev pub Unconfigured : ℕ → List CommandValue → Type 0
Unconfigured port [] = Unit {0}
Unconfigured port (Configure told config ∷ more) = (told ≡ port → ⊥) × Unconfigured port more
Unconfigured port (command ∷ more) = Unconfigured port more

-- the work of a port is its configuration and revision after what was accepted, and the checksum of its set, if it has one,
-- after what was acknowledged (own)
pub record IsWorkOf (first : ℕ) (start : State) (port : ℕ) (work : Work) (events : List Stamp) : Type 0 where
  pub kept : Port
  pub there : port_numbered (after start (accepted events)) port ≡ Some kept
  pub config : work.config ≡ kept.config
  pub revision : work.revision ≡ kept.revision
  pub checksum : work.checksum ≡ option_map (λ stored. stored.set.checksum) (stored_at (port_numbered (durable first start events) port))

-- a port gets the work that is its work then (own)
abbrev pub TellsWork : ℕ → State → List Stamp → Event → Type 0
TellsWork first start before (Attended port work) = IsWorkOf first start port work before
TellsWork first start before _ = Unit {0}
