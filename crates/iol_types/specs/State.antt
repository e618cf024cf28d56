-- The state of a master's ports, and what commands do to it.
use Rattle.std.specs.Prelude.{◌≡◌, ℕ, ◌+◌, ◌-◌, ◌≤◌, ◌==◌, nat_lt, nat_le, ◌&&◌, not, if◌then◌else◌, Bool, true, List, [], ◌∷◌, Option}
use Rattle.std.specs.Prelude.{false, Some, None, IfSome, is_none, fold, replicate, slice_get, slice_set}
use Rattle.iol_types.specs.Config.{IsConfig, keeps_set, may_store_set}
use Rattle.iol_types.specs.DataSet.{SetValue, IsSet}
use Rattle.iol_types.specs.Command.{CommandValue, Configure, Clear, Store, Rollback}
use Rattle.iol_types.specs.declared.config.PortConfig.{PortConfig}
use Rattle.iol_types.specs.declared.config.PortMode.TheVariants.{Deactivated}
use Rattle.iol_types.specs.declared.config.Validation.TheVariants.{NoCheck}
use Rattle.iol_types.specs.declared.command.CommandFault.{CommandFault}
use Rattle.iol_types.specs.declared.command.CommandFault.TheVariants.{UnknownPort, RevisionSpent, NotAllowed, StaleRevision}
use Rattle.iol_types.specs.declared.command.CommandFault.TheVariants.{WrongDevice, NoPrevious}
use Rattle.iol_types.specs.declared.port_state.TheConstants.{LAST_REVISION}

-- a stored set: a parameter set, and the configuration that it was taken under (own)
pub record Stored : Type 0 where
  pub set : SetValue
  pub recorded : PortConfig

-- a port with this configuration may have this stored set: the configuration that the set was taken under may store one
-- and names the set's device, and the set stays when it is replaced by the present one (own)
abbrev pub may_have : PortConfig → Stored → Bool
may_have config stored =
    may_store_set stored.recorded && (stored.set.vendor == stored.recorded.vendor) && (stored.set.device == stored.recorded.device)
    && keeps_set stored.recorded config

-- a port with this configuration may have these as its stored set and its previous one: neither; a stored set that it
-- may have; two sets that it may have; but no previous set alone (own)
abbrev pub may_stand : PortConfig → Option Stored → Option Stored → Bool
may_stand config None None = true
may_stand config None (Some previous) = false
may_stand config (Some stored) None = may_have config stored
may_stand config (Some stored) (Some previous) = may_have config stored && may_have config previous

-- what a master keeps for a port: its configuration, how often it was configured, the set that is stored for it, if
-- any, and the set that was stored before that one, if any (own)
pub record Port : Type 0 where
  pub config : PortConfig
  pub revision : ℕ
  pub stored : Option Stored
  pub previous : Option Stored

-- the numbers of a stored set, and of the configuration that it was taken under, are in their ranges (own)
pub record IsStored (stored : Stored) : Type 0 where
  pub set : IsSet stored.set
  pub recorded : IsConfig stored.recorded

-- the numbers of a port are in their ranges, and the port may have its sets (own)
pub record IsPort (port : Port) : Type 0 where
  pub config : IsConfig port.config
  pub revision : port.revision ≤ LAST_REVISION
  pub stored : IfSome port.stored IsStored
  pub previous : IfSome port.previous IsStored
  pub stands : may_stand port.config port.stored port.previous ≡ true

-- the ports of a master in order, port 1 first (own)
abbrev pub State : Type 0
State = List Port

-- a port that was never configured (own)
abbrev pub blank : Port
blank = record {
  config = record { mode = Deactivated; validation = NoCheck; vendor = 0; device = 0; label = [] };
  revision = 0;
  stored = None;
  previous = None;
}

-- this number of ports that were never configured (own)
abbrev pub empty_state : ℕ → State
empty_state ports = replicate ports blank

-- the port with this number, if there is one (own)
abbrev pub port_numbered : State → ℕ → Option Port
port_numbered state number = if nat_le 1 number then slice_get state (number - 1) else None

-- the state with the port of this number replaced by the given one (own)
abbrev pub with_port : State → ℕ → Port → State
with_port state number port = slice_set state (number - 1) port

-- why a port is not configured again: it is at its last revision (own)
abbrev pub configure_fault : Port → Option CommandFault
configure_fault port = if nat_lt port.revision LAST_REVISION then None else Some RevisionSpent

-- why a set is not stored for a port, by the first cause: its configuration may not store one, it has another revision,
-- it names another device (own)
abbrev pub store_fault : Port → ℕ → SetValue → Option CommandFault
store_fault port revision set =
    if not (may_store_set port.config) then Some NotAllowed
    else if not (revision == port.revision) then Some StaleRevision
    else if not ((set.vendor == port.config.vendor) && (set.device == port.config.device)) then Some WrongDevice
    else None

-- why the sets of a port are not exchanged: it has no previous one (own)
abbrev pub rollback_fault : Port → Option CommandFault
rollback_fault port = if is_none port.previous then Some NoPrevious else None

-- why a command is refused at a port: there is no such port, or the given fault of the port (own)
abbrev pub fault_at : Option Port → (Port → Option CommandFault) → Option CommandFault
fault_at None fault = Some UnknownPort
fault_at (Some port) fault = fault port

-- why a command is refused in a state; none if it passes (own)
abbrev pub check : State → CommandValue → Option CommandFault
check state (Configure number config) = fault_at (port_numbered state number) configure_fault
check state (Clear number) = fault_at (port_numbered state number) (λ port. None)
check state (Store number revision set) = fault_at (port_numbered state number) (λ port. store_fault port revision set)
check state (Rollback number) = fault_at (port_numbered state number) rollback_fault

-- a port with its next configuration: its sets stay if `keeps_set` holds (own)
abbrev pub configured : Port → PortConfig → Port
configured port config = record {
  config = config;
  revision = port.revision + 1;
  stored = if keeps_set port.config config then port.stored else None;
  previous = if keeps_set port.config config then port.previous else None;
}

-- a port without a set (own)
abbrev pub cleared : Port → Port
cleared port = record port { stored = None; previous = None }

-- a port with this set stored, taken under its present configuration; the set that it had is the previous one (own)
abbrev pub with_set : Port → SetValue → Port
with_set port set = record port { stored = Some (record { set = set; recorded = port.config }); previous = port.stored }

-- a port with its set and its previous set exchanged (own)
abbrev pub exchanged : Port → Port
exchanged port = record port { stored = port.previous; previous = port.stored }

-- the state with one port changed, if there is such a port (own)
abbrev pub changed_at : State → ℕ → (Port → Port) → Option Port → State
changed_at state number change None = state
changed_at state number change (Some port) = with_port state number (change port)

-- the state after a command (own)
abbrev pub apply : State → CommandValue → State
apply state (Configure number config) = changed_at state number (λ port. configured port config) (port_numbered state number)
apply state (Clear number) = changed_at state number cleared (port_numbered state number)
apply state (Store number revision set) = changed_at state number (λ port. with_set port set) (port_numbered state number)
apply state (Rollback number) = changed_at state number exchanged (port_numbered state number)

-- the state after commands in order (own)
abbrev pub after : State → List CommandValue → State
after state commands = fold apply state commands

-- each command passes in the state after those before it (own)
abbrev pub legal : State → List CommandValue → Bool
legal state [] = true
legal state (command ∷ commands) = is_none (check state command) && legal (apply state command) commands
