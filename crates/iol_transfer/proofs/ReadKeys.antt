-- The keys that are read from an Index_List are in their ranges, not reserved, and not repeated.
use Rattle.std.proofs.Common.{◌≡◌, ℕ, ◌<◌, Bool, true, false, cond, not, List, [], ◌∷◌, length, get_or, refl, ap, arith, All, suc, subst}
use Rattle.std.specs.Prelude.{Result, Ok, Err, IfOk, filter, ◌==◌}
use Rattle.std.specs.List.{AllByRecursion, IsDistinct}
use Rattle.std.proofs.lemmas.List.Elements.{All-cons, All-filter}
use Rattle.iol_types.specs.Key.{IsKey, same_key, is_reserved}
use Rattle.iol_types.specs.declared.key.Key.{Key}
use Rattle.iol_transfer.specs.List.{Listing, index_of, key_of, listed_before, at_index, listing_of, first_places, at_first_places}
use Rattle.iol_transfer.specs.List.{reading_of, begins_with_key, AreReadKeys}
use Rattle.iol_transfer.specs.declared.list.Next.{Next}
use Rattle.iol_transfer.specs.declared.list.Next.TheVariants as next_is
use Rattle.iol_transfer.specs.declared.list.ListFault.{ListFault}
use Rattle.iol_transfer.specs.declared.list.ListFault.TheVariants.{ReservedKey}

-- a property holds of each listed key, if the listing can be read
abbrev pub OfEachKey : (Key → Type 0) → Result Listing ListFault → Type 0
OfEachKey P said = IfOk said (λ listing. All P listing.0)

none : (P : Key → Type 0) → All P []
none P k d below = absurd (omega (arith, below))

-- the same for the keys from an Index on that is not reserved
at_index-each : (P : Key → Type 0) (index : ℕ) (said : Result Listing ListFault)
    → (is_reserved (record { index = index; subindex = 0 }) ≡ false → OfEachKey P said) → OfEachKey P (at_index index said)
at_index-each P index said each = by (index == 0) (is_reserved (record { index = index; subindex = 0 })) refl
  where
    by : (zero reserved : Bool) → is_reserved (record { index = index; subindex = 0 }) ≡ reserved
        → OfEachKey P (cond zero (Ok ([], next_is.End)) (cond reserved (Err ReservedKey) said))
    by true reserved is = none P
    by false true is = tt
    by false false is = each is

-- a property of all keys that are not reserved holds of the listed ones, if O holds of each octet
listing_of-each : (O : ℕ → Type 0) (P : Key → Type 0) (octets : List ℕ) → ((i : ℕ) → O (get_or octets i 0))
    → ((high low subindex : ℕ) → O high → O low → O subindex → is_reserved (key_of high low subindex) ≡ false
    → P (key_of high low subindex))
    → OfEachKey P (listing_of octets)
listing_of-each O P [] fit holds = none P
listing_of-each O P (octet ∷ []) fit holds = tt
listing_of-each O P (high ∷ low ∷ []) fit holds =
    at_index-each P (index_of high low) (Ok ([], next_is.List (index_of high low))) (λ _. none P)
listing_of-each O P (high ∷ low ∷ subindex ∷ behind) fit holds =
    at_index-each P (index_of high low) (listed_before key (listing_of behind))
    (λ free. before (listing_of behind) (holds high low subindex (fit 0) (fit 1) (fit 2) free)
    (listing_of-each O P behind (λ i. fit (suc (suc (suc i)))) holds))
  where
    key : Key
    key = key_of high low subindex

    before : (said : Result Listing ListFault) → P key → OfEachKey P said → OfEachKey P (listed_before key said)
    before (Ok said) here each = All-cons P key said.0 here each
    before (Err fault) here each = tt

pub first_places-each : (P : Key → Type 0) (keys : List Key) → All P keys → All P (first_places keys)
first_places-each P [] each = each
first_places-each P (key ∷ keys) each =
    All-cons P key (filter (λ other. not (same_key key other)) (first_places keys)) (each 0 key (omega arith))
    (All-filter (λ other. not (same_key key other)) P (first_places keys)
    (first_places-each P keys (λ k d below. each (suc k) d (omega (arith, below)))))

-- a filter keeps all keys different from a key
apart-filter : (test : Key → Bool) (key : Key) (keys : List Key) → AllByRecursion (λ other. same_key key other ≡ false) keys
    → AllByRecursion (λ other. same_key key other ≡ false) (filter test keys)
apart-filter test key [] apart = tt
apart-filter test key (other ∷ keys) apart = by (test other) (apart-filter test key keys apart.1)
  where
    by : (passes : Bool) → AllByRecursion (λ other. same_key key other ≡ false) (filter test keys)
        → AllByRecursion (λ other. same_key key other ≡ false) (cond passes (other ∷ filter test keys) (filter test keys))
    by true rest = (apart.0, rest)
    by false rest = rest

distinct-filter : (test : Key → Bool) (keys : List Key) → IsDistinct same_key keys → IsDistinct same_key (filter test keys)
unfolding IsDistinct
distinct-filter test [] distinct = tt
distinct-filter test (key ∷ keys) distinct = by (test key) (distinct-filter test keys distinct.1)
  where
    by : (passes : Bool) → IsDistinct same_key (filter test keys)
        → IsDistinct same_key (cond passes (key ∷ filter test keys) (filter test keys))
    by true rest = (apart-filter test key keys distinct.0, rest)
    by false rest = rest

-- after a key is filtered out, all other keys differ from it
apart-passed : (key : Key) (keys : List Key)
    → AllByRecursion (λ other. same_key key other ≡ false) (filter (λ other. not (same_key key other)) keys)
apart-passed key [] = tt
apart-passed key (other ∷ keys) = by (same_key key other) refl (apart-passed key keys)
  where
    passed : List Key
    passed = filter (λ other. not (same_key key other)) keys

    by : (same : Bool) → same_key key other ≡ same → AllByRecursion (λ other. same_key key other ≡ false) passed
        → AllByRecursion (λ other. same_key key other ≡ false) (cond (not same) (other ∷ passed) passed)
    by true is rest = rest
    by false is rest = (is, rest)

pub first_places-apart : (keys : List Key) → IsDistinct same_key (first_places keys)
unfolding IsDistinct
first_places-apart [] = tt
first_places-apart (key ∷ keys) = (
  apart-passed key (first_places keys),
  distinct-filter (λ other. not (same_key key other)) (first_places keys)
      (first_places-apart keys),
)

-- no listed key is reserved
free_listed : (octets : List ℕ) → OfEachKey (λ key. is_reserved key ≡ false) (listing_of octets)
free_listed octets =
    listing_of-each (λ _. Unit {0}) (λ key. is_reserved key ≡ false) octets (λ _. tt) (λ high low subindex h l s free. free)

each_read : (said : Result Listing ListFault) → OfEachKey IsKey said → OfEachKey (λ key. is_reserved key ≡ false) said
    → IfOk (at_first_places said) (λ listing. AreReadKeys listing.0)
each_read (Ok said) each free = record {
  each = first_places-each IsKey said.0 each;
  free = first_places-each (λ key. is_reserved key ≡ false) said.0 free;
  distinct = first_places-apart said.0;
}
each_read (Err fault) each free = tt

-- the keys that are read from octets
pub reading_of-keys : (octets : List ℕ) (keys : List Key) (next : Next) → ((i : ℕ) → get_or octets i 0 < 256)
    → reading_of octets ≡ Ok (keys, next) → AreReadKeys keys
reading_of-keys octets keys next fit read =
    subst (λ (said : Result Listing ListFault). IfOk said (λ listing. AreReadKeys listing.0)) read
    (each_read (listing_of octets)
    (listing_of-each (λ octet. octet < 256) IsKey octets fit
    (λ high low subindex h l s free. record { index = omega (arith, h, l); subindex = omega (arith, s) }))
    (free_listed octets))

-- none of them is reserved, whatever numbers the octets are
pub reading_of-free : (octets : List ℕ) (keys : List Key) (next : Next) → reading_of octets ≡ Ok (keys, next)
    → All (λ key. is_reserved key ≡ false) keys
reading_of-free octets keys next read =
    subst (λ (said : Result Listing ListFault). IfOk said (λ listing. All (λ key. is_reserved key ≡ false) listing.0)) read
    (by (listing_of octets) (free_listed octets))
  where
    by : (said : Result Listing ListFault) → OfEachKey (λ key. is_reserved key ≡ false) said
        → IfOk (at_first_places said) (λ listing. All (λ key. is_reserved key ≡ false) listing.0)
    by (Ok said) free = first_places-each (λ key. is_reserved key ≡ false) said.0 free
    by (Err fault) free = tt

-- the keys of a listing
abbrev keys_in : Result Listing ListFault → List Key
keys_in (Ok said) = said.0
keys_in (Err fault) = []

-- a listing without keys has no key
no_keys : (keys : List Key) (next other : Next) → (let said : Result Listing ListFault = Ok ([], other) in said) ≡ Ok (keys, next)
    → 0 < length keys → ⊥
no_keys [] next other said some = absurd (omega (arith, some))
no_keys (key ∷ keys) next other said some = let none : [] ≡ key ∷ keys = ap keys_in said in cc

-- no key is read from a reserved Index on
none_after : (zero : Bool) (said : Result Listing ListFault) (keys : List Key) (next : Next)
    → at_first_places (cond zero (Ok ([], next_is.End)) (cond true (Err ReservedKey) said)) ≡ Ok (keys, next) → 0 < length keys → ⊥
none_after true said keys next read some = no_keys keys next _ read some
none_after false said keys next read some = cc

-- two octets are not a key
two_octets_none : (zero reserved : Bool) (index : ℕ) (keys : List Key) (next : Next)
    → at_first_places (cond zero (Ok ([], next_is.End)) (cond reserved (Err ReservedKey) (Ok ([], next_is.List index)))) ≡ Ok (keys, next)
    → 0 < length keys → ⊥
two_octets_none true reserved index keys next read some = no_keys keys next _ read some
two_octets_none false true index keys next read some = cc
two_octets_none false false index keys next read some = no_keys keys next _ read some

-- the Index of a key that was read is not reserved
free_first : (zero reserved : Bool) (said : Result Listing ListFault) (keys : List Key) (next : Next)
    → at_first_places (cond zero (Ok ([], next_is.End)) (cond reserved (Err ReservedKey) said)) ≡ Ok (keys, next) → 0 < length keys
    → not reserved ≡ true
free_first zero true said keys next read some = absurd (none_after zero said keys next read some)
free_first zero false said keys next read some = refl

-- octets from which a key is read begin with one
pub reading_of-begins : (octets : List ℕ) (keys : List Key) (next : Next) → reading_of octets ≡ Ok (keys, next)
    → 0 < length keys → begins_with_key octets ≡ true
reading_of-begins [] keys next read some = absurd (no_keys keys next _ read some)
reading_of-begins (octet ∷ []) keys next read some = cc
reading_of-begins (high ∷ low ∷ []) keys next read some =
    absurd (two_octets_none (index_of high low == 0) (is_reserved (key_of high low 0)) (index_of high low) keys next read some)
reading_of-begins (high ∷ low ∷ subindex ∷ behind) keys next read some =
    free_first (index_of high low == 0) (is_reserved (key_of high low subindex)) _ keys next read some
