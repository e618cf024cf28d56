-- Parts: the entries of a set as texts, which are copied into a record.
use Rattle.std.specs.Prelude.{ℕ, ◌+◌, ◌≤◌, nat_le, if◌then◌else◌, List, [], ◌∷◌, ◌++◌, length, get_or, slice_range, fold}
use Rattle.std.specs.Int.{w16, to_be_bytes}
use Rattle.iol_types.specs.DataSet.{Entry}
use Rattle.iol_types.specs.declared.data_set.TheConstants.{ENTRY_HEAD_OCTETS}
use Rattle.iol_types.specs.declared.parts.PartPlace.{PartPlace}
use Rattle.iol_types.specs.declared.parts.TheConstants.{PART_OCTETS}

-- the octets of an entry: Index 2, Subindex 1, length 1, data (format, Records)
abbrev pub entry_octets : Entry → List ℕ
entry_octets entry = to_be_bytes w16 entry.0.index ++ (entry.0.subindex ∷ length entry.1 ∷ entry.1)

-- texts of entries in order: those that are full, and the last one, which may grow (own)
pub record PartsValue : Type 0 where
  pub full : List (List ℕ)
  pub last : List ℕ

-- parts with one empty text (own)
abbrev pub no_parts : PartsValue
no_parts = record { full = []; last = [] }

-- a text is appended to the last one if both have at most 512 octets together; otherwise the last one is full, and the
-- text becomes the last (own)
abbrev pub with_text : PartsValue → List ℕ → PartsValue
with_text parts text =
    if nat_le (length parts.last + length text) PART_OCTETS
    then record { full = parts.full; last = parts.last ++ text }
    else record { full = parts.full ++ parts.last ∷ []; last = text }

-- the texts of entries added in order (own)
abbrev pub grown : List Entry → PartsValue
grown entries = fold (λ parts entry. with_text parts (entry_octets entry)) no_parts entries

-- all texts in order (own)
abbrev pub texts_of : PartsValue → List (List ℕ)
texts_of parts = parts.full ++ parts.last ∷ []

-- the parts of entries: texts of at most 512 octets, each of whole entries; a new part begins only if the next entry
-- does not fit (format, Records)
abbrev pub parts_of : List Entry → List (List ℕ)
parts_of [] = []
parts_of (entry ∷ entries) = texts_of (grown (entry ∷ entries))

-- the text with this number (own)
abbrev pub text_numbered : PartsValue → ℕ → List ℕ
text_numbered parts number = get_or parts.full number parts.last

-- a place is within a text (own)
pub record IsWithin (parts : PartsValue) (place : PartPlace) : Type 0 where
  pub part : place.part ≤ length parts.full
  pub end : place.offset + place.octets ≤ length (text_numbered parts place.part)

-- the octets at a place (own)
abbrev pub octets_at : PartsValue → PartPlace → List ℕ
octets_at parts place = slice_range (text_numbered parts place.part) place.offset (place.offset + place.octets)

-- the place that the next entry's octets get, after its head (own)
abbrev pub data_after : PartsValue → ℕ → PartPlace
data_after parts octets =
    if nat_le (length parts.last + (ENTRY_HEAD_OCTETS + octets)) PART_OCTETS
    then record { part = length parts.full; offset = length parts.last + ENTRY_HEAD_OCTETS; octets = octets }
    else record { part = length parts.full + 1; offset = ENTRY_HEAD_OCTETS; octets = octets }
