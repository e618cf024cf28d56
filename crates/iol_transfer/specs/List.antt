-- Index_List: the keys of a device's parameters, and what follows them.
use Rattle.std.specs.Prelude.{◌≡◌, ℕ, ◌+◌, ◌*◌, ◌/◌, ◌%◌, ◌==◌, not, Bool, false, if◌then◌else◌, List, [], ◌∷◌, ◌++◌, Result, Ok, Err, All}
use Rattle.std.specs.Prelude.{filter}
use Rattle.std.specs.List.{flat_map, list_any, IsDistinct}
use Rattle.iol_types.specs.Key.{IsKey, same_key, is_reserved}
use Rattle.iol_types.specs.declared.key.Key.{Key}
use Rattle.iol_transfer.specs.declared.list.Next.{Next}
use Rattle.iol_transfer.specs.declared.list.Next.TheVariants as next
use Rattle.iol_transfer.specs.declared.list.ListFault.{ListFault}
use Rattle.iol_transfer.specs.declared.list.ListFault.TheVariants.{Truncated, ReservedKey}

-- the Index that two octets are, most significant octet first (standard, Data Storage object)
abbrev pub index_of : ℕ → ℕ → ℕ
index_of high low = high * 256 + low

-- the key of an entry: Index of two octets, Subindex of one (standard, Data Storage object)
abbrev pub key_of : ℕ → ℕ → ℕ → Key
key_of high low subindex = record { index = index_of high low; subindex = subindex }

-- the contents of a list: its keys in order, and what follows them (own)
abbrev pub Listing : Type 0
Listing = List Key × Next

-- the contents of a list with this key before the others, if the others can be read (own)
abbrev pub listed_before : Key → Result Listing ListFault → Result Listing ListFault
listed_before key (Ok said) = Ok (key ∷ said.0, said.1)
listed_before key (Err fault) = Err fault

-- the contents of a list from an entry with this Index on: 0000 ends the list, 0002 and 0003 are reserved, and with any
-- other Index the given contents are kept (own)
abbrev pub at_index : ℕ → Result Listing ListFault → Result Listing ListFault
at_index index said =
    if index == 0 then Ok ([], next.End)
    else if is_reserved (record { index = index; subindex = 0 }) then Err ReservedKey
    else said

-- the contents of a list from these octets on: no octet ends the list; one is too few; two are the Index of the next list;
-- three or more begin with an entry (own)
abbrev pub listing_of : List ℕ → Result Listing ListFault
listing_of [] = Ok ([], next.End)
listing_of (octet ∷ []) = Err Truncated
listing_of (high ∷ low ∷ []) = at_index (index_of high low) (Ok ([], next.List (index_of high low)))
listing_of (high ∷ low ∷ subindex ∷ rest) =
    at_index (index_of high low) (listed_before (key_of high low subindex) (listing_of rest))

-- these keys, each only at its first place (own)
abbrev pub first_places : List Key → List Key
first_places [] = []
first_places (key ∷ keys) = key ∷ filter (λ other. not (same_key key other)) (first_places keys)

-- the contents of a list with each key only at its first place (own)
abbrev pub at_first_places : Result Listing ListFault → Result Listing ListFault
at_first_places (Ok said) = Ok (first_places said.0, said.1)
at_first_places (Err fault) = Err fault

-- the result of reading the octets of an Index_List: each key at its first place, and what follows the keys, or the first
-- fault (format, Index list)
abbrev pub reading_of : List ℕ → Result Listing ListFault
reading_of octets = at_first_places (listing_of octets)

-- keys that are read from a list: each in its ranges, none reserved, and none twice (own)
pub record AreReadKeys (keys : List Key) : Type 0 where
  pub each : All IsKey keys
  pub free : All (λ key. is_reserved key ≡ false) keys
  pub distinct : IsDistinct same_key keys

-- these octets begin with an entry whose key is not reserved (own)
abbrev pub begins_with_key : List ℕ → Bool
begins_with_key (high ∷ low ∷ subindex ∷ rest) = not (is_reserved (key_of high low subindex))
begins_with_key _ = false

-- the two octets of an Index, most significant octet first (standard, Data Storage object)
abbrev pub two_octets : ℕ → List ℕ
two_octets index = index / 256 ∷ index % 256 ∷ []

-- the octets of a key: Index, Subindex (standard, Data Storage object)
abbrev pub key_octets : Key → List ℕ
key_octets key = two_octets key.index ++ key.subindex ∷ []

-- the octets of what follows the keys: 0000 at the end, else the Index of the next list (own)
abbrev pub next_octets : Next → List ℕ
next_octets next.End = two_octets 0
next_octets (next.List index) = two_octets index

-- the octets of an Index_List with these keys in order, and what follows them (format, Index list)
abbrev pub list_octets : List Key → Next → List ℕ
list_octets keys next = flat_map key_octets keys ++ next_octets next

-- a key is among these (own)
abbrev pub is_among : List Key → Key → Bool
is_among keys key = list_any (λ other. same_key other key) keys

-- these keys and a further one after them, unless it is among them (own)
abbrev pub kept_with : List Key → Key → List Key
kept_with keys key = if is_among keys key then keys else keys ++ key ∷ []

-- a list may be followed by this: its end, or an Index that is not reserved (own)
abbrev pub CanFollow : Next → Type 0
CanFollow next.End = Unit {0}
CanFollow (next.List index) = is_reserved (record { index = index; subindex = 0 }) ≡ false
