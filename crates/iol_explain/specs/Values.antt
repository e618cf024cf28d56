-- The words for what is read of a device.
use Rattle.std.specs.Prelude.{ℕ, Bool, true, false, List, ◌++◌, codes, Result, Ok, Err}
use Rattle.std.specs.Fmt.{decimal}
use Rattle.std.specs.List.{flat_map}
use Rattle.std.specs.Option.{option_map_or}
use Rattle.iol_types.specs.declared.key.Key.{Key}
use Rattle.iol_transfer.specs.List.{Listing}
use Rattle.iol_transfer.specs.Property.{PropertyValue, property_of}
use Rattle.iol_transfer.specs.declared.list.ListFault.{ListFault}
use Rattle.iol_transfer.specs.declared.list.ListFault.TheVariants as fault
use Rattle.iol_transfer.specs.declared.list.Next.{Next}
use Rattle.iol_transfer.specs.declared.list.Next.TheVariants as next
use Rattle.iol_transfer.specs.declared.property.State.{State}
use Rattle.iol_transfer.specs.declared.property.State.TheVariants.{Inactive, Upload, Download, Locked}
use Rattle.iol_transfer.specs.List.{reading_of}
use Rattle.iol_texts.specs.Texts.{hex_digits}
use Rattle.iol_explain.specs.Objects.{key_text, object_name, octet_words, one_octet, four_octets}
use Rattle.iol_explain.specs.declared.object.Object.{Object}
use Rattle.iol_explain.specs.declared.object.Object.TheVariants.{StateProperty, Size, Checksum, IndexList}

-- DS_UPLOAD_FLAG in a word (format, Explained runs)
abbrev pub flag_text : Bool → List ℕ
flag_text true = codes "set"
flag_text false = codes "clear"

-- the state of a device's Data Storage in words (standard, Data Storage object)
abbrev pub state_text : State → List ℕ
state_text Inactive = codes "inactive"
state_text Upload = codes "upload"
state_text Download = codes "download"
state_text Locked = codes "Data Storage locked"

-- the words for State_Property (format, Explained runs)
abbrev pub property_text : PropertyValue → List ℕ
property_text property =
    codes "State_Property: DS_UPLOAD_FLAG " ++ (flag_text property.flag ++ (codes ", state " ++ state_text property.state))

-- the words for the octets of State_Property, which has one octet (format, Explained runs)
abbrev pub property_value : List ℕ → List ℕ
property_value octets =
    option_map_or (λ octet. property_text (property_of octet)) (one_octet octets)
    (codes "State_Property, not one octet:" ++ octet_words octets)

-- the words for the octets of Data_Storage_Size, which has four octets (format, Explained runs)
abbrev pub size_value : List ℕ → List ℕ
size_value octets =
    option_map_or (λ size. codes "Data_Storage_Size: " ++ (decimal size ++ codes " octets")) (four_octets octets)
    (codes "Data_Storage_Size, not four octets:" ++ octet_words octets)

-- the words for the octets of Parameter_Checksum, which has four octets (format, Explained runs)
abbrev pub checksum_value : List ℕ → List ℕ
checksum_value octets =
    option_map_or (λ checksum. codes "Parameter_Checksum: " ++ hex_digits 8 checksum) (four_octets octets)
    (codes "Parameter_Checksum, not four octets:" ++ octet_words octets)

-- keys, each with a comma after it (format, Explained runs)
abbrev pub keys_text : List Key → List ℕ
keys_text keys = flat_map (λ key. key_text key ++ codes ", ") keys

-- the words for what comes next after a list (format, Explained runs)
abbrev pub next_text : Next → List ℕ
next_text next.End = codes "end"
next_text (next.List index) = codes "next list at Index " ++ hex_digits 4 index

-- the words for the keys of a list and for what comes next (format, Explained runs)
abbrev pub listing_words : List Key → Next → List ℕ
listing_words keys next_ = codes "Index_List: " ++ (keys_text keys ++ next_text next_)

-- the words for an Index_List, or for its first fault (format, Explained runs)
abbrev pub list_words : Result Listing ListFault → List ℕ
list_words (Ok listed) = listing_words listed.0 listed.1
list_words (Err fault.Truncated) = codes "Index_List: it breaks off"
list_words (Err fault.ReservedKey) = codes "Index_List: it names a reserved Index"
list_words (Err fault.Memory) = codes "Index_List: out of memory"

-- the words for the octets of an object (format, Explained runs)
abbrev pub value_words : Object → List ℕ → List ℕ
value_words StateProperty octets = property_value octets
value_words Size octets = size_value octets
value_words Checksum octets = checksum_value octets
value_words IndexList octets = list_words (reading_of octets)
value_words object octets = object_name object ++ (codes ":" ++ octet_words octets)
