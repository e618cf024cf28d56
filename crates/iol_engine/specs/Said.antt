-- The value of a command, as ghost state.
use Rattle.iol_types.specs.Command.{CommandValue, Configure, value_of}
use Rattle.iol_types.specs.State.{blank}
use Rattle.iol_types.specs.declared.config.PortConfig.{PortConfig}
use Rattle.iol_engine.specs.declared.said.Said.{Said}
use Rattle.iol_engine.specs.declared.said.Source.{Source}

-- the `Said` of a source: the value of its command (own)
abbrev pub said_of : Source → Said
said_of source = record { command = value_of source.command.now }

-- the configuration of a Configure; for another command, that of a port that was never configured (own)
abbrev pub config_said : CommandValue → PortConfig
config_said (Configure port config) = config
config_said other = blank.config
