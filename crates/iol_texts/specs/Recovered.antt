-- The lines of a state that was recovered.
use Rattle.std.specs.Prelude.{ℕ, ◌+◌, List, [], ◌∷◌, ◌++◌, length, codes, Option, Some, None}
use Rattle.std.specs.Option.{option_map_or}
use Rattle.std.specs.List.{flat_map}
use Rattle.std.specs.Fmt.{decimal}
use Rattle.iol_types.specs.Config.{mode_octet, validation_octet}
use Rattle.iol_types.specs.DataSet.{Entry, octets_of}
use Rattle.iol_types.specs.State.{Stored, Port, State}
use Rattle.iol_types.specs.declared.config.PortConfig.{PortConfig}
use Rattle.iol_texts.specs.Texts.{hex_of, hex_digits}

-- the octets of a parameter after a space, without spaces between them, or nothing if there are none (format, Texts)
abbrev pub octets_text : List ℕ → List ℕ
octets_text [] = []
octets_text (octet ∷ octets) = codes " " ++ flat_map hex_of (octet ∷ octets)

-- the line of a parameter: its Index and Subindex, and its octets (format, Texts)
abbrev pub entry_line : Entry → List ℕ
entry_line entry =
    codes "entry " ++ (hex_digits 4 entry.0.index ++ (codes "." ++ (hex_of entry.0.subindex ++ (octets_text entry.1 ++ codes "\n"))))

-- the lines of the parameters of a set, in order (format, Texts)
abbrev pub entry_lines : Stored → List ℕ
entry_lines stored = flat_map entry_line stored.set.entries

-- a label after its name and in quotation marks, or nothing if it is empty (format, Texts)
abbrev pub label_text : List ℕ → List ℕ
label_text [] = []
label_text (octet ∷ octets) = codes " label \"" ++ (octet ∷ octets ++ codes "\"")

-- a configuration, each number after its name (format, Texts)
abbrev pub config_text : PortConfig → List ℕ
config_text config =
    codes "mode " ++ (decimal (mode_octet config.mode) ++ (codes " validation " ++ (decimal (validation_octet config.validation)
    ++ (codes " vendor " ++ (hex_digits 4 config.vendor ++ (codes " device " ++ hex_digits 6 config.device))))))

-- a configuration, only its numbers (format, Texts)
abbrev pub config_numbers : PortConfig → List ℕ
config_numbers config =
    decimal (mode_octet config.mode) ++ (codes " " ++ (decimal (validation_octet config.validation) ++ (codes " "
    ++ (hex_digits 4 config.vendor ++ (codes " " ++ hex_digits 6 config.device)))))

-- the text about a parameter set of a port: the number of its entries, the octets that they count, its checksum, and the
-- configuration under which it was taken (format, Texts)
abbrev pub set_text : Option Stored → List ℕ
set_text None = codes "none"
set_text (Some stored) =
    decimal (length stored.set.entries) ++ (codes " entries " ++ (decimal (octets_of stored.set.entries) ++ (codes " octets checksum "
    ++ (hex_digits 8 stored.set.checksum ++ (codes " under " ++ config_numbers stored.recorded)))))

-- the line of the port with this number (format, Texts)
abbrev pub port_line : ℕ → Port → List ℕ
port_line number port =
    codes "port " ++ (decimal number ++ (codes " revision " ++ (decimal port.revision ++ (codes " " ++ (config_text port.config
    ++ (label_text port.config.label ++ (codes " set " ++ (set_text port.stored ++ codes "\n"))))))))

-- the lines of the previous set of a port: its own, and one for each of its parameters (format, Texts)
abbrev pub previous_lines : Stored → List ℕ
previous_lines previous = codes "previous " ++ (set_text (Some previous) ++ (codes "\n" ++ entry_lines previous))

-- the lines of the port with this number: its own, one for each parameter of its set, and those of its previous set
-- (format, Texts)
abbrev pub port_text : ℕ → Port → List ℕ
port_text number port =
    port_line number port ++ (option_map_or entry_lines port.stored [] ++ option_map_or previous_lines port.previous [])

-- the lines of ports, the first of which has this number (format, Texts)
abbrev pub port_lines : ℕ → List Port → List ℕ
port_lines number [] = []
port_lines number (port ∷ ports) = port_text number port ++ port_lines (number + 1) ports

-- the lines of a state after `number` commands (format, Texts)
abbrev pub recovered_text : ℕ → State → List ℕ
recovered_text number state = codes "recovered " ++ (decimal number ++ (codes "\n" ++ port_lines 1 state))
