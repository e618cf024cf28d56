-- Commands to a master, and the changes that a client may request.
use Rattle.std.specs.Prelude.{ℕ, ◌≤◌, Option, Some, None}
use Rattle.iol_types.specs.Numbers.{IsPortNumber}
use Rattle.iol_types.specs.Config.{IsConfig}
use Rattle.iol_types.specs.DataSet.{SetValue, IsSet}
use Rattle.iol_types.specs.declared.config.PortConfig.{PortConfig}
use Rattle.iol_types.specs.declared.port_state.TheConstants.{LAST_REVISION}
use Rattle.iol_types.specs.declared.command.Command.{Command}
use Rattle.iol_types.specs.declared.command.Command.TheVariants as command
use Rattle.iol_types.specs.declared.command.Change.{Change}
use Rattle.iol_types.specs.declared.command.Change.TheVariants as change

-- the content of a command, wherever its parts are in memory: Configure gives a port its configuration, Clear deletes
-- its parameter sets, Store gives a port at this revision a set, and Rollback exchanges its set and the previous one
-- (own)
pub data CommandValue : Type 0 where
  Configure : (port : ℕ) (config : PortConfig) → CommandValue
  Clear : (port : ℕ) → CommandValue
  Store : (port revision : ℕ) (set : SetValue) → CommandValue
  Rollback : (port : ℕ) → CommandValue

-- the content of a command in memory (own)
abbrev pub value_of : Command → CommandValue
value_of (command.Configure port config) = Configure port config
value_of (command.Clear port) = Clear port
value_of (command.Store port revision set) = Store port revision set.value
value_of (command.Rollback port) = Rollback port

-- the set that a command carries: only a Store has one (own)
abbrev pub set_in : CommandValue → Option SetValue
set_in (Configure port config) = None
set_in (Clear port) = None
set_in (Store port revision set) = Some set
set_in (Rollback port) = None

-- the command that a change becomes (own)
abbrev pub command_of : Change → CommandValue
command_of (change.Configure port config) = Configure port config
command_of (change.Clear port) = Clear port
command_of (change.Rollback port) = Rollback port

-- the port that a change is requested for (own)
abbrev pub port_asked : Change → ℕ
port_asked (change.Configure port config) = port
port_asked (change.Clear port) = port
port_asked (change.Rollback port) = port

-- the numbers of a command are in their ranges, and its set is valid (own)
abbrev pub IsCommand : CommandValue → Type 0
IsCommand (Configure port config) = IsPortNumber port × IsConfig config
IsCommand (Clear port) = IsPortNumber port
IsCommand (Store port revision set) = IsPortNumber port × (revision ≤ LAST_REVISION) × IsSet set
IsCommand (Rollback port) = IsPortNumber port
