-- The objects that requests name in a device, and octets as values of them.
use Rattle.std.specs.Prelude.{ℕ, ◌==◌, not, if◌then◌else◌, List, [], ◌∷◌, ◌++◌, codes, Option, Some, None, option_and_then}
use Rattle.std.specs.Fmt.{decimal}
use Rattle.std.specs.Int.{w32, from_be_bytes}
use Rattle.iol_types.specs.declared.key.Key.{Key}
use Rattle.iol_types.specs.declared.key.TheConstants.{DATA_STORAGE}
use Rattle.iol_transfer.specs.Command.{ds_command_of}
use Rattle.iol_transfer.specs.declared.command.DsCommand.{DsCommand}
use Rattle.iol_transfer.specs.declared.object.TheConstants.{DS_COMMAND, STATE_PROPERTY, DATA_STORAGE_SIZE, PARAMETER_CHECKSUM, INDEX_LIST}
use Rattle.iol_texts.specs.Texts.{spaced}
use Rattle.iol_texts.specs.Texts.{hex_of, hex_digits}
use Rattle.iol_explain.specs.declared.object.Object.{Object}
use Rattle.iol_explain.specs.declared.object.Object.TheVariants.{Parameter, Command, StateProperty, Size, Checksum, IndexList, Unnamed}

-- the object that an Index and a Subindex name: a parameter, or a part of the Data Storage object (standard, Data Storage object)
abbrev pub object_of : ℕ → ℕ → Object
object_of index subindex =
    if not (index == DATA_STORAGE) then Parameter (record { index = index; subindex = subindex })
    else if subindex == DS_COMMAND then Command
    else if subindex == STATE_PROPERTY then StateProperty
    else if subindex == DATA_STORAGE_SIZE then Size
    else if subindex == PARAMETER_CHECKSUM then Checksum
    else if subindex == INDEX_LIST then IndexList
    else Unnamed subindex

-- the key of a parameter: its Index in four digits, its Subindex in two (format, Explained runs)
abbrev pub key_text : Key → List ℕ
key_text key = hex_digits 4 key.index ++ (codes "." ++ hex_of key.subindex)

-- the name of an object (format, Explained runs)
abbrev pub object_name : Object → List ℕ
object_name (Parameter key) = codes "parameter " ++ key_text key
object_name Command = codes "DS_Command"
object_name StateProperty = codes "State_Property"
object_name Size = codes "Data_Storage_Size"
object_name Checksum = codes "Parameter_Checksum"
object_name IndexList = codes "Index_List"
object_name (Unnamed subindex) = codes "Subindex " ++ decimal subindex

-- an object with its Index and Subindex (format, Explained runs)
abbrev pub object_place : Object → List ℕ
object_place (Parameter key) = codes "parameter " ++ key_text key
object_place Command = codes "Index 3, Subindex 1: DS_Command"
object_place StateProperty = codes "Index 3, Subindex 2: State_Property"
object_place Size = codes "Index 3, Subindex 3: Data_Storage_Size"
object_place Checksum = codes "Index 3, Subindex 4: Parameter_Checksum"
object_place IndexList = codes "Index 3, Subindex 5: Index_List"
object_place (Unnamed subindex) = codes "Index 3, Subindex " ++ decimal subindex

-- the octet, if there is exactly one (own)
abbrev pub one_octet : List ℕ → Option ℕ
one_octet (octet ∷ []) = Some octet
one_octet octets = None

-- the number that four octets are, most significant octet first, if there are four (standard, Data Storage object)
abbrev pub four_octets : List ℕ → Option ℕ
four_octets (first ∷ second ∷ third ∷ fourth ∷ []) = Some (from_be_bytes w32 (first ∷ second ∷ third ∷ fourth ∷ []))
four_octets octets = None

-- the command that octets are, if they are one (standard, Data Storage object)
abbrev pub command_in : List ℕ → Option DsCommand
command_in octets = option_and_then ds_command_of (one_octet octets)

-- octets in hexadecimal, each after a space, or that there are none (format, Explained runs)
abbrev pub octet_words : List ℕ → List ℕ
octet_words [] = codes " no octet"
octet_words (octet ∷ octets) = spaced (octet ∷ octets)
