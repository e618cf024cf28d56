-- A recovered state as JSON.
use Rattle.std.specs.Prelude.{ℕ, ◌+◌, List, [], ◌∷◌, map, codes, slice_get, Option, Some, None}
use Rattle.std.specs.Option.{option_map_or}
use Rattle.hex.specs.Hex.{encode_upper}
use Rattle.serde_json.specs.Data.{Data, null, unsigned, string, array, object, no_members, member}
use Rattle.serde_json.specs.Data as json
use Rattle.serde_json.specs.View.{items_of}
use Rattle.iol_types.specs.Config.{mode_octet, validation_octet}
use Rattle.iol_types.specs.DataSet.{Entry, octets_of}
use Rattle.iol_types.specs.State.{Stored, Port, State, port_numbered}
use Rattle.iol_types.specs.declared.config.PortConfig.{PortConfig}

-- a whole number (format, JSON)
abbrev pub whole : ℕ → Data
whole n = json.number (unsigned n)

-- a configuration: its label and its numbers, each under its name; names are in alphabetical order (format, JSON)
abbrev pub config_data : PortConfig → Data
config_data config =
    object (member (codes "device") (whole config.device) (member (codes "label") (string config.label)
    (member (codes "mode") (whole (mode_octet config.mode)) (member (codes "validation") (whole (validation_octet config.validation))
    (member (codes "vendor") (whole config.vendor) no_members)))))

-- a parameter: its octets in hexadecimal, its Index and its Subindex (format, JSON)
abbrev pub entry_data : Entry → Data
entry_data entry =
    object (member (codes "data") (string (encode_upper entry.1)) (member (codes "index") (whole entry.0.index)
    (member (codes "subindex") (whole entry.0.subindex) no_members)))

-- a stored set: its checksum, its parameters in order, the octets that they count, and the configuration under which it was taken
-- (format, JSON)
abbrev pub stored_data : Stored → Data
stored_data stored =
    object (member (codes "checksum") (whole stored.set.checksum)
    (member (codes "entries") (array (items_of (map entry_data stored.set.entries)))
    (member (codes "octets") (whole (octets_of stored.set.entries)) (member (codes "under") (config_data stored.recorded) no_members))))

-- a set of a port, or null if there is none (format, JSON)
abbrev pub set_data : Option Stored → Data
set_data None = null
set_data (Some stored) = stored_data stored

-- the port with this number: its configuration, its number, its previous set, its revision and its set (format, JSON)
abbrev pub port_data : ℕ → Port → Data
port_data number port =
    object (member (codes "configuration") (config_data port.config) (member (codes "port") (whole number)
    (member (codes "previous") (set_data port.previous) (member (codes "revision") (whole port.revision)
    (member (codes "set") (set_data port.stored) no_members)))))

-- ports in order, the first of which has this number (format, JSON)
abbrev pub ports_data : ℕ → List Port → List Data
ports_data number [] = []
ports_data number (port ∷ ports) = port_data number port ∷ ports_data (number + 1) ports

-- a state after this number of commands: its ports, and that number (format, JSON)
abbrev pub state_data : ℕ → State → Data
state_data number state =
    object (member (codes "ports") (array (items_of (ports_data 1 state))) (member (codes "recovered") (whole number) no_members))

-- the parameter at a place, and the port with a number, if they are there (own)
abbrev pub entry_at : List Entry → ℕ → List Data
entry_at entries place = option_map_or (λ entry. entry_data entry ∷ []) (slice_get entries place) []

abbrev pub port_at : State → ℕ → List Data
port_at state number = option_map_or (λ port. port_data number port ∷ []) (port_numbered state number) []
