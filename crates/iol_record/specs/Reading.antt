-- What is read from the front of any octets: a value and the octets after it, or the first fault.
use Rattle.std.specs.Prelude.{◌≡◌, ◌+◌, ◌-◌, ℕ, zero, suc, nat_lt, nat_le, nat_eq, ◌&&◌, if◌then◌else◌, Bool, true, false, List, [], ◌∷◌}
use Rattle.std.specs.Prelude.{◌++◌, length, take, drop, min, find, Option, Some, None, is_some, Result, Ok, Err, MatchResult, IsOk}
use Rattle.std.specs.Option.{ok_or}
use Rattle.std.specs.Int.{Width, w8, w16, w32, w64, byte_len, from_be_bytes}
use Rattle.iol_types.specs.declared.config.PortConfig.{PortConfig}
use Rattle.iol_types.specs.declared.config.PortMode.{PortMode}
use Rattle.iol_types.specs.declared.config.Validation.{Validation}
use Rattle.iol_types.specs.declared.key.Key.{Key}
use Rattle.iol_types.specs.declared.port_id.TheConstants.{PORTS}
use Rattle.iol_types.specs.declared.device_id.TheConstants.{DEVICE_NUMBERS}
use Rattle.iol_types.specs.declared.data_set.TheConstants.{MOST_ENTRY_OCTETS, ENTRY_HEAD_OCTETS, MOST_SET_OCTETS}
use Rattle.iol_types.specs.Config.{mode_of, validation_of}
use Rattle.iol_types.specs.Label.{is_label}
use Rattle.iol_types.specs.declared.label.TheConstants.{MOST_LABEL_OCTETS}
use Rattle.iol_types.specs.Key.{is_reserved}
use Rattle.iol_types.specs.DataSet.{Entry, SetValue, data_at, octets_of}
use Rattle.iol_types.specs.Command.{CommandValue, Configure, Clear, Store, Rollback}
use Rattle.iol_types.specs.State.{Stored, Port, may_stand}
use Rattle.iol_record.specs.declared.fault.RecordFault.{RecordFault}
use Rattle.iol_record.specs.declared.fault.RecordFault.TheVariants.{Short, BadTag, BadField, Memory}
use Rattle.iol_record.specs.declared.reader.Tag.{Tag}
use Rattle.iol_record.specs.declared.reader.Tag.TheVariants as tag
use Rattle.iol_record.specs.declared.records.SetHead.{SetHead}
use Rattle.iol_record.specs.declared.reader.TheConstants.{CONFIGURE, CLEAR, STORE, ROLLBACK, NO_SET, SET}
use Rattle.iol_record.specs.declared.version.Version.{Version}
use Rattle.iol_record.specs.declared.version.Version.TheVariants.{One, Two}

-- a reading returns the value at the front of some octets with the octets after it, or the first fault (own)
abbrev pub Reading : Type 0 → Type 0
Reading A = List ℕ → Result (A × List ℕ) RecordFault

-- reading continues after a value, and ends at a fault (own)
infixl 10 ◌>>=◌
abbrev pub ◌>>=◌ : {A B E : Type 0} → Result A E → (A → Result B E) → Result B E
(Ok x) >>= next = next x
(Err fault) >>= next = Err fault

-- a field: the width of its number, the value that each number stands for, and the fault of a number that stands for
-- none (format, Records)
pub record Field (A : Type 0) : Type 0 where
  pub width : Width
  pub value : ℕ → Option A
  pub fault : RecordFault

-- a value if the test holds (own)
abbrev pub if_so : {A : Type 0} → Bool → A → Option A
if_so test x = if test then Some x else None

-- the numbers from least to most stand for themselves, and the others for no value (own)
abbrev pub from_to : ℕ → ℕ → ℕ → Option ℕ
from_to least most n = if_so (nat_le least n && nat_le n most) n

-- the octet of a tag (format, Records)
abbrev pub tag_octet : Tag → ℕ
tag_octet tag.Configure = CONFIGURE
tag_octet tag.Clear = CLEAR
tag_octet tag.Store = STORE
tag_octet tag.Rollback = ROLLBACK

-- the tags of a version; version 1 has no Rollback (format, Records)
abbrev pub tags : Version → List Tag
tags One = tag.Configure ∷ tag.Clear ∷ tag.Store ∷ []
tags Two = tag.Configure ∷ tag.Clear ∷ tag.Store ∷ tag.Rollback ∷ []

-- the tag of a version that has this octet (format, Records)
abbrev pub tag_of : Version → ℕ → Option Tag
tag_of version octet = find (λ t. nat_eq (tag_octet t) octet) (tags version)

-- the fields of commands and ports, each with its width and its numbers (format, Records)
abbrev pub tag_field : Version → Field Tag
tag_field version = record { width = w8; value = tag_of version; fault = BadTag }

abbrev pub port_field : Field ℕ
port_field = record { width = w8; value = from_to 1 PORTS; fault = BadField }

abbrev pub mode_field : Field PortMode
mode_field = record { width = w8; value = mode_of; fault = BadField }

abbrev pub validation_field : Field Validation
validation_field = record { width = w8; value = validation_of; fault = BadField }

abbrev pub vendor_field : Field ℕ
vendor_field = record { width = w16; value = Some; fault = BadField }

abbrev pub device_field : Field ℕ
device_field = record { width = w32; value = from_to 0 (DEVICE_NUMBERS - 1); fault = BadField }

abbrev pub label_length_field : Field ℕ
label_length_field = record { width = w8; value = from_to 0 MOST_LABEL_OCTETS; fault = BadField }

abbrev pub revision_field : Field ℕ
revision_field = record { width = w64; value = Some; fault = BadField }

abbrev pub checksum_field : Field ℕ
checksum_field = record { width = w32; value = Some; fault = BadField }

abbrev pub count_field : Field ℕ
count_field = record { width = w16; value = Some; fault = BadField }

-- the flag of a set of a port: whether the set follows (format, Records)
abbrev pub has_set : ℕ → Option Bool
has_set octet = if nat_eq octet NO_SET then Some false else if_so (nat_eq octet SET) true

abbrev pub flag_field : Field Bool
flag_field = record { width = w8; value = has_set; fault = BadField }

-- the Index of an entry: one that is not reserved (format, Records)
abbrev pub index_field : Field ℕ
index_field = record {
  width = w16;
  value = λ index. if is_reserved (record { index = index; subindex = 0 }) then None else Some index;
  fault = BadField;
}

-- the key of this Index and Subindex, if none of the entries before has it (format, Records)
abbrev pub new_key : List Entry → ℕ → ℕ → Option Key
new_key others index subindex =
    if is_some (data_at others (record { index = index; subindex = subindex })) then None else Some
    (record { index = index; subindex = subindex })

-- the Subindex of an entry after others: one that makes a key that none of them has (format, Records)
abbrev pub subindex_field : List Entry → ℕ → Field Key
subindex_field others index = record { width = w8; value = new_key others index; fault = BadField }

-- the length of an entry after others: at most 232, and one that does not make the set of all of them too large
-- (format, Records)
abbrev pub length_field : List Entry → Field ℕ
length_field others = record {
  width = w8;
  value = λ count. if_so (nat_le count MOST_ENTRY_OCTETS && nat_le (octets_of others + ENTRY_HEAD_OCTETS + count) MOST_SET_OCTETS) count;
  fault = BadField;
}

-- the reading of this number of octets (format, Records)
abbrev pub octets_at : ℕ → Reading (List ℕ)
octets_at count octets = if nat_lt (length octets) count then Err Short else Ok (take count octets, drop count octets)

-- the reading of a number of this width, most significant octet first (format, Records)
abbrev pub next_number : Width → Reading ℕ
next_number width octets = octets_at (byte_len width) octets >>= λ read. Ok (from_be_bytes width read.0, read.1)

-- the reading of a field: the value that its number stands for (format, Records)
abbrev pub field_at : {A : Type 0} → Field A → Reading A
field_at field octets =
    next_number field.width octets >>= λ number. ok_or (field.value number.0) field.fault >>= λ value. Ok (value, number.1)

-- the reading of two values, one after the other (own)
abbrev pub both : {A B : Type 0} → Reading A → Reading B → Reading (A × B)
both first second octets = first octets >>= λ a. second a.1 >>= λ b. Ok ((a.0, b.0), b.1)

-- the reading of a value, and then of a second one whose reading depends on the first (own)
abbrev pub followed : {A B : Type 0} → Reading A → (A → Reading B) → Reading B
followed first second octets = first octets >>= λ a. second a.0 a.1

-- the reading of parts as the whole that they make up (own)
abbrev pub joined : {A B : Type 0} → (A → B) → Reading A → Reading B
joined whole parts octets = parts octets >>= λ a. Ok (whole a.0, a.1)

-- the reading of a value that is tested once all of it is read (own)
abbrev pub tested : {A : Type 0} → (A → Bool) → Reading A → Reading A
tested test value octets = value octets >>= λ a. ok_or (if_so (test a.0) a) BadField

-- the reading of a label, which version 1 does not have: its length, and this number of octets, which are a label
-- (format, Records)
unfoldable pub label_at : Version → Reading (List ℕ)
label_at One octets = Ok ([], octets)
label_at Two octets = followed (field_at label_length_field) (λ count. tested is_label (octets_at count)) octets

-- a configuration with these parts (own)
abbrev pub config_of : PortMode × (Validation × (ℕ × (ℕ × List ℕ))) → PortConfig
config_of (mode, (validation, (vendor, (device, label)))) =
    record { mode = mode; validation = validation; vendor = vendor; device = device; label = label }

-- the reading of a configuration: mode, validation, vendor, device, label (format, Records)
unfoldable pub config_at : Version → Reading PortConfig
config_at version =
    joined config_of
    (both (field_at mode_field) (both (field_at validation_field) (both (field_at vendor_field) (both (field_at device_field)
    (label_at version)))))

-- the reading of an entry after others: Index, Subindex, length, data (format, Records)
unfoldable pub entry_at : List Entry → Reading Entry
entry_at others =
    followed (field_at index_field) (λ index.
    followed (field_at (subindex_field others index)) (λ key.
    followed (field_at (length_field others)) (λ count.
    joined (λ octets. (key, octets)) (octets_at count))))

-- the reading of this number of entries after others (format, Records)
abbrev pub entries_at : ℕ → List Entry → Reading (List Entry)
entries_at zero others octets = Ok ([], octets)
entries_at (suc n) others octets =
    followed (entry_at others) (λ entry. joined (λ more. entry ∷ more) (entries_at n (others ++ entry ∷ []))) octets

-- the reading of the numbers in front of the entries of a set: vendor, device, checksum, count (format, Records)
unfoldable pub set_head_at : Reading SetHead
set_head_at =
    joined (λ (vendor, (device, (checksum, count))). record { vendor = vendor; device = device; checksum = checksum; count = count })
    (both (field_at vendor_field) (both (field_at device_field) (both (field_at checksum_field) (field_at count_field))))

-- a set with these numbers and entries (format, Records)
abbrev pub set_with : SetHead → List Entry → SetValue
set_with head entries = record { entries = entries; vendor = head.vendor; device = head.device; checksum = head.checksum }

-- the reading of a set: its numbers, and the number of entries that they give (format, Records)
unfoldable pub set_at : Reading SetValue
set_at = followed set_head_at (λ head. joined (set_with head) (entries_at head.count []))

-- the reading of what follows a tag; Configure: port and configuration; Clear and Rollback: port; Store: port, revision
-- and set (format, Records)
unfoldable pub arguments_at : Version → Tag → Reading CommandValue
arguments_at version tag.Configure = joined (λ (port, config). Configure port config) (both (field_at port_field) (config_at version))
arguments_at version tag.Clear = joined Clear (field_at port_field)
arguments_at version tag.Store =
    joined (λ (port, (revision, set)). Store port revision set) (both (field_at port_field) (both (field_at revision_field) set_at))
arguments_at version tag.Rollback = joined Rollback (field_at port_field)

-- the reading of a command: its tag, and what follows the tag (format, Records)
unfoldable pub command_at : Version → Reading CommandValue
command_at version = followed (field_at (tag_field version)) (arguments_at version)

-- the reading of the stored set of a port, by its flag: none, or configuration and set (format, Records)
unfoldable pub stored_at : Version → Bool → Reading (Option Stored)
stored_at version false octets = Ok (None, octets)
stored_at version true octets =
    joined (λ (recorded, set). Some (record { set = set; recorded = recorded })) (both (config_at version) set_at) octets

-- the reading of the stored set of a port: a flag, and what follows it (format, Records)
abbrev pub flagged_at : Version → Reading (Option Stored)
flagged_at version = followed (field_at flag_field) (stored_at version)

-- the reading of the previous set of a port, which version 1 does not have (format, Records)
unfoldable pub previous_at : Version → Reading (Option Stored)
previous_at One octets = Ok (None, octets)
previous_at Two octets = flagged_at Two octets

-- a port may have its sets (own)
abbrev pub sets_may_stand : Port → Bool
sets_may_stand port = may_stand port.config port.stored port.previous

-- the reading of a port: configuration, revision, stored set, and previous set (format, Records)
unfoldable pub port_parts_at : Version → Reading Port
port_parts_at version =
    joined (λ (config, (revision, (stored, previous))). record {
      config = config;
      revision = revision;
      stored = stored;
      previous = previous;
    })
    (both (config_at version) (both (field_at revision_field) (both (flagged_at version) (previous_at version))))

-- the reading of a port that may have its sets (format, Records)
unfoldable pub port_record_at : Version → Reading Port
port_record_at version = tested sets_may_stand (port_parts_at version)

-- the reading of the numbers of a set and of its first entry, if it has one (format, Records)
unfoldable pub set_begun_at : Reading (List Entry)
set_begun_at = followed set_head_at (λ head. entries_at (min 1 head.count) [])

-- the reading of a Store up to the first entry of its set; no other command has a set (format, Records)
unfoldable pub begun_after : Tag → Reading (List Entry)
begun_after tag.Store octets =
    followed (field_at port_field) (λ port. followed (field_at revision_field) (λ revision. set_begun_at)) octets
begun_after other octets = Err BadTag

unfoldable pub store_begun_at : Version → Reading (List Entry)
store_begun_at version = followed (field_at (tag_field version)) begun_after

-- the reading of a set of a port up to its first entry, by its flag (format, Records)
unfoldable pub stored_begun_at : Version → Bool → Reading (List Entry)
stored_begun_at version true octets = followed (config_at version) (λ recorded. set_begun_at) octets
stored_begun_at version false octets = Err BadField

abbrev pub flagged_begun_at : Version → Reading (List Entry)
flagged_begun_at version = followed (field_at flag_field) (stored_begun_at version)

-- the reading of the previous set of a port up to its first entry, if there is one (format, Records)
unfoldable pub previous_begun_at : Version → Reading (List Entry)
previous_begun_at One octets = Err BadField
previous_begun_at Two octets = flagged_begun_at Two octets

-- the reading of the first set of a port up to its first entry: of the stored one, by its flag, or of the previous one
-- if none is stored (format, Records)
unfoldable pub first_begun_at : Version → Bool → Reading (List Entry)
first_begun_at version true octets = stored_begun_at version true octets
first_begun_at version false octets = previous_begun_at version octets

abbrev pub sets_begun_at : Version → Reading (List Entry)
sets_begun_at version = followed (field_at flag_field) (first_begun_at version)

-- the reading of a port up to the first entry of its first set, if it has one (format, Records)
unfoldable pub port_begun_at : Version → Reading (List Entry)
port_begun_at version =
    followed (config_at version) (λ config. followed (field_at revision_field) (λ revision. sets_begun_at version))

-- a function returns what is read: a value and the octets after it, or the fault (own)
abbrev pub Reads : {X A : Type 0} → (X → A × List ℕ) → Result X RecordFault → Result (A × List ℕ) RecordFault → Type 0
Reads view answer reading = MatchResult answer (λ x. reading ≡ Ok (view x)) (λ fault. reading ≡ Err fault)

-- a fault is the first one that is read, or `Memory`, which is possible only once `begun` is read (own)
abbrev pub IsReadFault : {A B : Type 0} → Result B RecordFault → RecordFault → Result A RecordFault → Type 0
IsReadFault begun Memory reading = IsOk begun
IsReadFault begun fault reading = reading ≡ Err fault

-- a function returns what is read, unless it is out of memory (own)
abbrev pub ReadsOrMemory : {X A B : Type 0} → (X → A × List ℕ) → Result B RecordFault → Result X RecordFault
    → Result (A × List ℕ) RecordFault → Type 0
ReadsOrMemory view begun answer reading = MatchResult answer (λ x. reading ≡ Ok (view x)) (λ fault. IsReadFault begun fault reading)
