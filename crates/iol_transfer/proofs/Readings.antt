-- An Index_List that is read from an entry on, after keys that were kept already.
use Rattle.std.proofs.Common.{◌≡◌, ℕ, ◌≤◌, Bool, true, false, cond, not, ◌&&◌, ◌||◌, List, [], ◌∷◌, ◌++◌, length, get_or, take, drop, ◌-◌}
use Rattle.std.proofs.Common.{refl, ap, sym, ◌∙◌, arith, append_assoc}
use Rattle.std.specs.Prelude.{Result, Ok, Err, filter, ◌==◌}
use Rattle.std.proofs.lemmas.List.{length-drop}
use Rattle.std.proofs.lemmas.List.Folds.{list_any-append}
use Rattle.std.proofs.Math.Seq.{take-length}
use Rattle.iol_types.specs.Key.{same_key, is_reserved}
use Rattle.iol_types.specs.declared.key.Key.{Key}
use Rattle.iol_transfer.specs.List.{Listing, index_of, key_of, listed_before, at_index, listing_of, first_places, at_first_places}
use Rattle.iol_transfer.specs.List.{reading_of, begins_with_key, is_among, kept_with}
use Rattle.iol_transfer.specs.declared.list.Next.TheVariants as next
use Rattle.iol_transfer.specs.declared.list.ListFault.{ListFault}
use Rattle.iol_transfer.specs.declared.list.ListFault.TheVariants.{ReservedKey}
use Rattle.iol_transfer.proofs.Filtered.{same_key-true, filter-filter}

-- keys that are not among others
abbrev pub without : List Key → List Key → List Key
without others keys = filter (λ key. not (is_among others key)) keys

-- the contents of a list after kept keys: the keys that are not among them follow them
abbrev pub behind : List Key → Result Listing ListFault → Result Listing ListFault
behind kept (Ok said) = Ok (kept ++ without kept said.0, said.1)
behind kept (Err fault) = Err fault

-- the result of reading octets after kept keys
abbrev pub read_after : List Key → List ℕ → Result Listing ListFault
read_after kept octets = behind kept (reading_of octets)

pub without-none : (keys : List Key) → without [] keys ≡ keys
without-none [] = refl
without-none (key ∷ keys) = ap (λ (rest : List Key). key ∷ rest) (without-none keys)

-- at the beginning no key is kept
pub read_after-none : (octets : List ℕ) → reading_of octets ≡ read_after [] octets
read_after-none octets = by (reading_of octets)
  where
    by : (read : Result Listing ListFault) → read ≡ behind [] read
    by (Ok said) = ap (λ (keys : List Key). let r : Result Listing ListFault = Ok (keys, said.1) in r) (sym (without-none said.0))
    by (Err fault) = refl

-- if a key is kept, a key that is not among the kept ones also differs from it
among_both : (kept : List Key) (key other : Key) → is_among kept key ≡ true
    → not (is_among kept other) ≡ (not (same_key key other) && not (is_among kept other))
among_both kept key other among = by (same_key key other) refl
  where
    by : (same : Bool) → same_key key other ≡ same → not (is_among kept other) ≡ (not same && not (is_among kept other))
    by true same = ap (λ (k : Key). not (is_among kept k)) (sym (same_key-true key other same)) ∙ ap not among
    by false same = refl

-- a key is not among these and one more if it differs from that one and is not among these
among_more : (kept : List Key) (key other : Key)
    → not (is_among (kept ++ key ∷ []) other) ≡ (not (same_key key other) && not (is_among kept other))
among_more kept key other =
    ap not (list_any-append (λ (k : Key). same_key k other) kept (key ∷ [])) ∙ by (is_among kept other) (same_key key other)
  where
    by : (among same : Bool) → not (among || (same || false)) ≡ (not same && not among)
    by true true = refl
    by true false = refl
    by false true = refl
    by false false = refl

-- a key that is among the kept ones is not kept again, and any other key follows them
pub kept_more : (kept : List Key) (key : Key) (keys : List Key)
    → kept ++ without kept (key ∷ filter (λ other. not (same_key key other)) keys) ≡ kept_with kept key ++ without (kept_with kept key) keys
kept_more kept key keys = by (is_among kept key) refl
  where
    by : (among : Bool) → is_among kept key ≡ among
        → kept ++ cond (not among) (key ∷ without kept (filter (λ other. not (same_key key other)) keys))
        (without kept (filter (λ other. not (same_key key other)) keys))
        ≡ cond among kept (kept ++ key ∷ []) ++ without (cond among kept (kept ++ key ∷ [])) keys
    by true among = ap (λ (rest : List Key). kept ++ rest) (filter-filter _ _ _ (λ other. among_both kept key other among) keys)
    by false among =
        ap (λ (rest : List Key). kept ++ key ∷ rest) (filter-filter _ _ _ (λ other. among_more kept key other) keys)
        ∙ sym (append_assoc kept (key ∷ []) (without (kept ++ key ∷ []) keys))

-- an Index that is not reserved changes nothing of the contents
pub at_index-free : (index : ℕ) (said : Result Listing ListFault) → is_reserved (record { index = index; subindex = 0 }) ≡ false
    → at_index index said ≡ said
at_index-free index said free = by (index == 0) (index == 2) (index == 3) free
  where
    by : (zero two three : Bool) → ((zero || two) || three) ≡ false
        → cond zero (Ok ([], next.End)) (cond ((zero || two) || three) (Err ReservedKey) said) ≡ said
    by true two three free = cc
    by false true three free = cc
    by false false true free = cc
    by false false false free = refl

-- the key of the entry with which these octets begin
abbrev pub key_in : List ℕ → Key
key_in octets = key_of (get_or octets 0 0) (get_or octets 1 0) (get_or octets 2 0)

-- after an entry whose key is not reserved, reading continues with this key kept
pub read_after-entry : (kept : List Key) (octets : List ℕ) → 3 ≤ length octets → is_reserved (key_in octets) ≡ false
    → read_after kept octets ≡ read_after (kept_with kept (key_in octets)) (drop 3 octets)
read_after-entry kept [] whole free = absurd (omega (arith, whole))
read_after-entry kept (high ∷ []) whole free = absurd (omega (arith, whole))
read_after-entry kept (high ∷ low ∷ []) whole free = absurd (omega (arith, whole))
read_after-entry kept (high ∷ low ∷ subindex ∷ more) whole free =
    ap (λ (said : Result Listing ListFault). behind kept (at_first_places said))
    (at_index-free (index_of high low) (listed_before key (listing_of more)) free)
    ∙ by (listing_of more)
  where
    key : Key
    key = key_of high low subindex

    by : (said : Result Listing ListFault) → behind kept (at_first_places (listed_before key said))
        ≡ behind (kept_with kept key) (at_first_places said)
    by (Ok said) =
        ap (λ (keys : List Key). let r : Result Listing ListFault = Ok (keys, said.1) in r) (kept_more kept key (first_places said.0))
    by (Err fault) = refl

pub begins_with_key-entry : (octets : List ℕ) → 3 ≤ length octets → is_reserved (key_in octets) ≡ false → begins_with_key octets ≡ true
begins_with_key-entry [] whole free = absurd (omega (arith, whole))
begins_with_key-entry (high ∷ []) whole free = absurd (omega (arith, whole))
begins_with_key-entry (high ∷ low ∷ []) whole free = absurd (omega (arith, whole))
begins_with_key-entry (high ∷ low ∷ subindex ∷ more) whole free = ap not free

-- the octets that a pattern leaves after the first ones
pub take-drop_all : (count : ℕ) (octets : List ℕ) → take (length octets - count) (drop count octets) ≡ drop count octets
take-drop_all count octets = ap (λ n. take n (drop count octets)) (sym (length-drop count octets)) ∙ take-length (drop count octets)
