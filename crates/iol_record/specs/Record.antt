-- The one spelling of each command and of each port in a version, numbers most significant octet first.
use Rattle.std.specs.Prelude.{◌≡◌, ℕ, Bool, true, false, List, [], ◌∷◌, ◌++◌, length, Option, Some, None, IfSome}
use Rattle.std.specs.List.{flat_map}
use Rattle.std.specs.Int.{w16, w32, w64, to_be_bytes}
use Rattle.iol_types.specs.declared.config.PortConfig.{PortConfig}
use Rattle.iol_types.specs.Config.{mode_octet, validation_octet}
use Rattle.iol_types.specs.DataSet.{SetValue}
use Rattle.iol_types.specs.Parts.{entry_octets}
use Rattle.iol_types.specs.Command.{CommandValue, Configure, Clear, Store, Rollback, IsCommand}
use Rattle.iol_types.specs.State.{Stored, Port, State, IsPort}
use Rattle.iol_record.specs.declared.reader.TheConstants.{CONFIGURE, CLEAR, STORE, ROLLBACK, NO_SET, SET}
use Rattle.iol_record.specs.declared.encode.TheConstants.{LARGEST_PORT_RECORD_OF_ONE, LARGEST_PORT_RECORD_OF_TWO}
use Rattle.iol_record.specs.declared.version.Version.{Version}
use Rattle.iol_record.specs.declared.version.Version.TheVariants.{One, Two}

-- the version that is written (format, Records)
abbrev pub newest : Version
newest = Two

-- whether a version is the one that is written (format, Records)
abbrev pub is_newest : Version → Bool
is_newest One = false
is_newest Two = true

-- the octets of the numbers of a configuration: mode 1, validation 1, vendor 2, device 4 (format, Records)
abbrev pub numbers_octets : PortConfig → List ℕ
numbers_octets config =
    mode_octet config.mode ∷ validation_octet config.validation ∷ (to_be_bytes w16 config.vendor ++ to_be_bytes w32 config.device)

-- the octets of a label in a version: none in version 1; in version 2 its length 1, and its octets (format, Records)
abbrev pub label_octets : Version → List ℕ → List ℕ
label_octets One label = []
label_octets Two label = length label ∷ label

-- a version spells a label: in version 1 only the empty one (format, Records)
abbrev pub SpellsLabel : Version → List ℕ → Type 0
SpellsLabel One label = label ≡ []
SpellsLabel Two label = Unit {0}

-- the octets of a configuration: its numbers, and its label (format, Records)
abbrev pub config_octets : Version → PortConfig → List ℕ
config_octets version config = numbers_octets config ++ label_octets version config.label

-- the octets of a set: vendor 2, device 4, checksum 4, count 2, and its entries in order (format, Records)
abbrev pub set_octets : SetValue → List ℕ
set_octets set =
    to_be_bytes w16 set.vendor ++ to_be_bytes w32 set.device ++ to_be_bytes w32 set.checksum
    ++ to_be_bytes w16 (length set.entries) ++ flat_map entry_octets set.entries

-- the octets of a command; Configure: tag 1, port 1, configuration; Clear and Rollback: tag 1, port 1; Store: tag 1,
-- port 1, revision 8, set (format, Records)
abbrev pub command_octets : Version → CommandValue → List ℕ
command_octets version (Configure port config) = CONFIGURE ∷ port ∷ config_octets version config
command_octets version (Clear port) = CLEAR ∷ port ∷ []
command_octets version (Store port revision set) = STORE ∷ port ∷ (to_be_bytes w64 revision ++ set_octets set)
command_octets version (Rollback port) = ROLLBACK ∷ port ∷ []

-- the octets of the stored set of a port: flag 1 and, if there is a set, the configuration that it was taken under and
-- the set (format, Records)
abbrev pub stored_octets : Version → Option Stored → List ℕ
stored_octets version None = NO_SET ∷ []
stored_octets version (Some stored) = SET ∷ (config_octets version stored.recorded ++ set_octets stored.set)

-- the octets of the previous set of a port, which version 1 does not have: flag, configuration and set, as for the
-- stored set (format, Records)
abbrev pub previous_octets : Version → Option Stored → List ℕ
previous_octets One previous = []
previous_octets Two previous = stored_octets Two previous

-- the octets of a port: configuration, revision 8, stored set, and previous set (format, Records)
abbrev pub port_octets : Version → Port → List ℕ
port_octets version port =
    config_octets version port.config
    ++ (to_be_bytes w64 port.revision ++ (stored_octets version port.stored ++ previous_octets version port.previous))

-- the maximum number of octets of a port's record (format, Records)
abbrev pub largest_port_record : Version → ℕ
largest_port_record One = LARGEST_PORT_RECORD_OF_ONE
largest_port_record Two = LARGEST_PORT_RECORD_OF_TWO

-- version 1 has no Rollback (format, Records)
abbrev pub SpellsRollback : Version → Type 0
SpellsRollback One = ⊥
SpellsRollback Two = Unit {0}

-- a version spells a command: the label of a Configure, or a Rollback (format, Records)
abbrev pub SpellsCommand : Version → CommandValue → Type 0
SpellsCommand version (Configure port config) = SpellsLabel version config.label
SpellsCommand version (Clear port) = Unit {0}
SpellsCommand version (Store port revision set) = Unit {0}
SpellsCommand version (Rollback port) = SpellsRollback version

-- version 1 spells no previous set (format, Records)
abbrev pub SpellsPrevious : Version → Option Stored → Type 0
SpellsPrevious One previous = previous ≡ None
SpellsPrevious Two previous = Unit {0}

-- a version spells a port: its label, the label under which its stored set was taken, if it has one, and its previous
-- set, if it has one (format, Records)
pub record SpellsPort (version : Version) (port : Port) : Type 0 where
  pub label : SpellsLabel version port.config.label
  pub recorded : IfSome port.stored (λ stored. SpellsLabel version stored.recorded.label)
  pub previous : SpellsPrevious version port.previous

-- a version spells each port of a state (format, Records)
abbrev pub SpellsState : Version → State → Type 0
SpellsState version [] = Unit {0}
SpellsState version (port ∷ ports) = SpellsPort version port × SpellsState version ports

-- the octets are the one spelling of the command, whose numbers are in range (format, Records)
pub record IsCommandRecord (version : Version) (octets : List ℕ) (command : CommandValue) : Type 0 where
  pub spelling : octets ≡ command_octets version command
  pub in_range : IsCommand command
  pub spelled : SpellsCommand version command

-- the octets are the one spelling of the port, whose numbers are in range (format, Records)
pub record IsPortRecord (version : Version) (octets : List ℕ) (port : Port) : Type 0 where
  pub spelling : octets ≡ port_octets version port
  pub in_range : IsPort port
  pub spelled : SpellsPort version port
