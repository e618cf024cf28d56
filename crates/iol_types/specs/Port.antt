-- Ports and stored sets in memory, and those of a state that they represent.
use Rattle.std.specs.Option.{option_map}
use Rattle.iol_types.specs.State.{Stored, Port}
use Rattle.iol_types.specs.declared.port_state.StoredSet.{StoredSet}
use Rattle.iol_types.specs.declared.port_state.PortState.TheInside.{Inside}

-- the content of a stored set in memory (own)
abbrev pub stored_of : StoredSet → Stored
stored_of stored = record { set = stored.set.value; recorded = stored.recorded }

-- the content of a port in memory (own)
abbrev pub port_of : Inside → Port
port_of port = record {
  config = port.config;
  revision = port.revision;
  stored = option_map stored_of port.stored;
  previous = option_map stored_of port.previous;
}
