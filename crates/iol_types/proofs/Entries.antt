-- Entries of a set, added one after the other.
use Rattle.std.proofs.Common.{◌≡◌, ℕ, ◌+◌, ◌*◌, ◌≤◌, ◌<◌, Bool, true, false, cond, List, [], ◌∷◌, ◌++◌, length, Some, None, refl}
use Rattle.std.proofs.Common.{ap, sym, ◌∙◌, subst, arith, is_some, get_or, length-append}
use Rattle.std.specs.Map.{keys_of}
use Rattle.std.specs.List.{IsDistinct, AllByRecursion}
use Rattle.std.specs.Prelude.{nat_lt, ◌==◌}
use Rattle.std.proofs.lemmas.Bool.{and_parts}
use Rattle.std.proofs.lemmas.Bool.Decides.{nat_tests}
use Rattle.std.proofs.lemmas.List.{map-append}
use Rattle.std.proofs.lemmas.List.Sums.{sum_by-append}
use Rattle.std.proofs.lemmas.Grind.{common_steps}
use borrow.Author.Tests.{ltb-false}
use Rattle.iol_types.specs.Key.{IsKey, same_key, is_reserved}
use Rattle.iol_types.specs.DataSet.{Entry, IsEntry, AreEntries, octets_of, data_at, add_fault}
use Rattle.iol_types.specs.declared.key.Key.{Key}
use Rattle.iol_types.specs.declared.data_set.TheConstants.{MOST_ENTRY_OCTETS, ENTRY_HEAD_OCTETS, MOST_SET_OCTETS}
use Rattle.iol_types.specs.declared.set_builder.AddFault.TheVariants.{ReservedKey, EntryTooLong, Duplicate, SetTooLarge}

-- one more entry counts four octets and its own
pub octets_of-push : (entries : List Entry) (key : Key) (octets : List ℕ)
    → octets_of (entries ++ (key, octets) ∷ []) ≡ octets_of entries + ENTRY_HEAD_OCTETS + length octets
octets_of-push entries key octets =
    omega (arith, sum_by-append (λ (entry : Entry). ENTRY_HEAD_OCTETS + length entry.1) entries ((key, octets) ∷ []))

-- what holds of an entry that nothing refuses
pub record MayBeAdded (entries : List Entry) (key : Key) (octets : List ℕ) : Type 0 where
  pub free : is_reserved key ≡ false
  pub short : length octets ≤ MOST_ENTRY_OCTETS
  pub absent : is_some (data_at entries key) ≡ false
  pub fits : octets_of entries + ENTRY_HEAD_OCTETS + length octets ≤ MOST_SET_OCTETS

pub may_be_added : (entries : List Entry) (key : Key) (octets : List ℕ) → add_fault entries key octets ≡ None
    → MayBeAdded entries key octets
may_be_added entries key octets none =
    by (is_reserved key) (nat_lt MOST_ENTRY_OCTETS (length octets)) (is_some (data_at entries key))
    (nat_lt MOST_SET_OCTETS (octets_of entries + ENTRY_HEAD_OCTETS + length octets)) refl refl refl refl none
  where
    by : (reserved long there large : Bool) → is_reserved key ≡ reserved → nat_lt MOST_ENTRY_OCTETS (length octets) ≡ long
        → is_some (data_at entries key) ≡ there → nat_lt MOST_SET_OCTETS (octets_of entries + ENTRY_HEAD_OCTETS + length octets) ≡ large
        → cond reserved (Some ReservedKey)
        (cond long (Some EntryTooLong) (cond there (Some Duplicate) (cond large (Some SetTooLarge) None))) ≡ None
        → MayBeAdded entries key octets
    by true long there large r l t s none = cc
    by false true there large r l t s none = cc
    by false false true large r l t s none = cc
    by false false false true r l t s none = cc
    by false false false false r l t s none = record { free = r; short = ltb-false _ _ l; absent = t; fits = ltb-false _ _ s }

-- and nothing refuses an entry of which this holds
pub none-added : (entries : List Entry) (key : Key) (octets : List ℕ) → MayBeAdded entries key octets → add_fault entries key octets ≡ None
none-added entries key octets may =
    let short : nat_lt MOST_ENTRY_OCTETS (length octets) ≡ false = grind (arith, nat_tests, may.short) in
    let fits : nat_lt MOST_SET_OCTETS (octets_of entries + ENTRY_HEAD_OCTETS + length octets) ≡ false =
    grind (arith, nat_tests, may.fits) in
    rw (may.free, short, may.absent, fits) refl

pub no-entries : AreEntries []
unfolding IsDistinct
no-entries = record { each = λ i d below. absurd (omega (arith, below)); distinct = tt; fits = omega arith }

-- ---- distinct keys

false_if_never : (b : Bool) → (b ≡ true → ⊥) → b ≡ false
false_if_never true never = absurd (never refl)
false_if_never false never = refl

other_way : (one two : Key) → same_key one two ≡ false → same_key two one ≡ false
other_way one two apart = false_if_never (same_key two one) (λ same.
    let parts = and_parts (two.index == one.index) (two.subindex == one.subindex) same in
    let index : (one.index == two.index) ≡ true = grind (arith, nat_tests, parts.0) in
    let subindex : (one.subindex == two.subindex) ≡ true = grind (arith, nat_tests, parts.1) in
    let both : same_key one two ≡ true = rw (index, subindex) refl in
    cc)

absent_parts : (key : Key) (entry : Entry) (entries : List Entry) → is_some (data_at (entry ∷ entries) key) ≡ false
    → (same_key key entry.0 ≡ false) × (is_some (data_at entries key) ≡ false)
absent_parts key entry entries absent = by (same_key key entry.0) refl absent
  where
    by : (same : Bool) → same_key key entry.0 ≡ same → is_some (cond same (Some entry.1) (data_at entries key)) ≡ false
        → (same_key key entry.0 ≡ false) × (is_some (data_at entries key) ≡ false)
    by true is absent = cc
    by false is absent = (is, absent)

apart-push : (key new : Key) (keys : List Key) → AllByRecursion (λ other. same_key key other ≡ false) keys → same_key key new ≡ false
    → AllByRecursion (λ other. same_key key other ≡ false) (keys ++ new ∷ [])
apart-push key new [] all apart = (apart, tt)
apart-push key new (other ∷ keys) all apart = (all.0, apart-push key new keys all.1 apart)

-- keys stay distinct if one is appended that is not among them
pub distinct-push : (entries : List Entry) (key : Key) → is_some (data_at entries key) ≡ false → IsDistinct same_key (keys_of entries)
    → IsDistinct same_key (keys_of entries ++ key ∷ [])
unfolding IsDistinct
distinct-push [] key absent distinct = (tt, tt)
distinct-push (entry ∷ entries) key absent distinct =
    let parts = absent_parts key entry entries absent in
    (apart-push entry.0 key (keys_of entries) distinct.0 (other_way key entry.0 parts.0), distinct-push entries key parts.1 distinct.1)

-- ---- one entry after others

-- an entry that nothing refuses may follow the others
pub one-more : (entries : List Entry) (key : Key) (octets : List ℕ) → AreEntries entries → IsKey key → MayBeAdded entries key octets
    → AreEntries (entries ++ (key, octets) ∷ [])
one-more entries key octets are in_range may =
    let entry : IsEntry (key, octets) = record { key = in_range; free = may.free; short = may.short } in
    record {
      each = λ i d below. grind (arith, common_steps, are.each i d, entry);
      distinct = subst (IsDistinct same_key) (sym (map-append (λ (e : Entry). e.0) entries ((key, octets) ∷ [])))
          (distinct-push entries key may.absent are.distinct);
      fits = omega (arith, octets_of-push entries key octets, may.fits);
    }

among : (entries : List Entry) (entry : Entry) (more : List Entry) → get_or (entries ++ entry ∷ more) (length entries) entry ≡ entry
among [] entry more = refl
among (other ∷ entries) entry more = among entries entry more

apart-among : (P : Key → Type 0) (entries : List Entry) (key : Key) (behind : List Key) → AllByRecursion P (keys_of entries ++ key ∷ behind)
    → P key
apart-among P [] key behind all = all.0
apart-among P (other ∷ entries) key behind all = apart-among P entries key behind all.1

-- a key distinct from those of the entries before it is not found among them
pub absent-before : (entries : List Entry) (key : Key) (behind : List Key) → IsDistinct same_key (keys_of entries ++ key ∷ behind)
    → is_some (data_at entries key) ≡ false
unfolding IsDistinct
absent-before [] key behind distinct = refl
absent-before (other ∷ entries) key behind distinct =
    let apart = other_way other.0 key (apart-among (λ one. same_key other.0 one ≡ false) entries key behind distinct.0) in
    ap (λ same. is_some (cond same (Some other.1) (data_at entries key))) apart ∙ absent-before entries key behind distinct.1

-- and nothing refuses an entry that follows others
pub may-stand : (entries : List Entry) (entry : Entry) (more : List Entry) → AreEntries (entries ++ entry ∷ more) → IsKey entry.0
    × MayBeAdded entries entry.0 entry.1
may-stand entries entry more are =
    let there : length entries < length (entries ++ entry ∷ more) = omega (arith, length-append entries (entry ∷ more)) in
    let is : IsEntry entry = subst IsEntry (among entries entry more) (are.each (length entries) entry there) in
    let counted = sum_by-append (λ (e : Entry). ENTRY_HEAD_OCTETS + length e.1) in (
      is.key,
      record {
        free = is.free;
        short = is.short;
        absent = absent-before entries entry.0 (keys_of more)
            (subst (IsDistinct same_key) (map-append (λ (e : Entry). e.0) entries (entry ∷ more)) are.distinct);
        fits = omega (arith, are.fits, counted entries (entry ∷ more), counted (entry ∷ []) more);
      },
    )

-- entries count at least the octets of their heads
pub length-octets_of : (entries : List Entry) → ENTRY_HEAD_OCTETS * length entries ≤ octets_of entries
length-octets_of [] = omega arith
length-octets_of (entry ∷ entries) =
    omega (arith, length-octets_of entries, sum_by-append (λ (e : Entry). ENTRY_HEAD_OCTETS + length e.1) (entry ∷ []) entries)
