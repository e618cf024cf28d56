-- The parameters of a device: in memory and as entries, with one more, and with one written.
use Rattle.std.proofs.Common.{◌≡◌, ℕ, ◌≤◌, ◌<◌, Bool, true, false, cond, List, [], ◌∷◌, ◌++◌, length, Option, Some, None}
use Rattle.std.proofs.Common.{refl, ap, sym, ◌∙◌, subst, arith, is_some, length-append, zero, suc}
use Rattle.std.specs.Prelude.{nat_lt, All, slice_get}
use Rattle.std.specs.List.{IsDistinct}
use Rattle.std.specs.Map.{keys_of, lookup}
use Rattle.std.specs.Option.{option_map}
use Rattle.std.proofs.lemmas.List.{map-append}
use Rattle.std.proofs.lemmas.List.Elements.{All-cons, All-push, All-head, All-tail}
use Rattle.std.proofs.lemmas.Bool.{ltb-false}
use Rattle.std.proofs.lemmas.Bool.Decides.{nat_tests}
use Rattle.std.proofs.lemmas.Map.Made.{lookup-map_values}
use Rattle.arrayvec.specs.ArrayVec.{ArrayVec}
use Rattle.indexmap.specs.IndexMap.{insert_entry}
use Rattle.iol_types.specs.Key.{IsKey, same_key, is_reserved}
use Rattle.iol_types.specs.DataSet.{Entry, IsEntry, data_at}
use Rattle.iol_types.proofs.Entries.{distinct-push}
use Rattle.iol_types.specs.declared.key.Key.{Key}
use Rattle.iol_types.specs.declared.data_set.TheConstants.{MOST_ENTRY_OCTETS}
use Rattle.iol_sim.specs.Parameters.{AreParameters, add_fault, entries_of}
use Rattle.iol_sim.specs.declared.parameters.TheConstants.{MOST_PARAMETERS}
use Rattle.iol_sim.specs.declared.parameters.DeviceFault.TheVariants.{ReservedKey, TooLong, Duplicate, TooMany}

-- ---- in memory

-- a key is in the map exactly if its parameter is there
pub is_some-entries_of : (test : Key → Bool) (kept : List (Key × ArrayVec ℕ)) → is_some (lookup test (entries_of kept))
    ≡ is_some (lookup test kept)
is_some-entries_of test kept =
    ap is_some (lookup-map_values (λ value. value.items) test kept)
    ∙ elim (lookup test kept) as (λ found. is_some (option_map (λ value. value.items) found) ≡ is_some found)
    [ None ↦ refl | Some value ↦ refl ]

pub none-entries_of : (test : Key → Bool) (kept : List (Key × ArrayVec ℕ)) → is_some (lookup test (entries_of kept)) ≡ false
    → lookup test kept ≡ None
none-entries_of test kept absent = by (lookup test kept) (sym (is_some-entries_of test kept) ∙ absent)
  where
    by : (found : Option (ArrayVec ℕ)) → is_some found ≡ false → found ≡ None
    by None none = refl
    by (Some value) none = cc

-- ---- one more

-- the facts that hold if a parameter is not refused
pub record MayBeAdded (parameters : List Entry) (key : Key) (octets : List ℕ) : Type 0 where
  pub free : is_reserved key ≡ false
  pub short : length octets ≤ MOST_ENTRY_OCTETS
  pub absent : is_some (data_at parameters key) ≡ false
  pub few : length parameters < MOST_PARAMETERS

pub may_be_added : (parameters : List Entry) (key : Key) (octets : List ℕ)
    → add_fault parameters key octets ≡ None → MayBeAdded parameters key octets
may_be_added parameters key octets none =
    by (is_reserved key) (nat_lt MOST_ENTRY_OCTETS (length octets)) (is_some (data_at parameters key))
    (nat_lt (length parameters) MOST_PARAMETERS) refl refl refl refl none
  where
    by : (reserved long there few : Bool) → is_reserved key ≡ reserved → nat_lt MOST_ENTRY_OCTETS (length octets) ≡ long
        → is_some (data_at parameters key) ≡ there → nat_lt (length parameters) MOST_PARAMETERS ≡ few
        → cond reserved (Some ReservedKey) (cond long (Some TooLong) (cond there (Some Duplicate) (cond few None (Some TooMany)))) ≡ None
        → MayBeAdded parameters key octets
    by true long there few r l t s none = cc
    by false true there few r l t s none = cc
    by false false true few r l t s none = cc
    by false false false false r l t s none = cc
    by false false false true r l t s none =
        record { free = r; short = ltb-false _ _ l; absent = t; few = grind (arith, nat_tests, s) }

-- a parameter that is not refused may follow the others
pub one-more : (parameters : List Entry) (key : Key) (octets : List ℕ) → AreParameters parameters → IsKey key
    → MayBeAdded parameters key octets → AreParameters (parameters ++ (key, octets) ∷ [])
one-more parameters key octets are in_range may =
    record {
      each = All-push IsEntry parameters (key, octets) are.each (record { key = in_range; free = may.free; short = may.short });
      distinct = subst (IsDistinct same_key) (sym (map-append (λ (e : Entry). e.0) parameters ((key, octets) ∷ [])))
          (distinct-push parameters key may.absent are.distinct);
      few = omega (arith, length-append parameters ((key, octets) ∷ []), may.few);
    }

-- the parameters in memory after one that is not refused was added after them
pub record Grown (kept later : List (Key × ArrayVec ℕ)) (key : Key) (octets : List ℕ) : Type 0 where
  pub entries : entries_of later ≡ entries_of kept ++ (key, octets) ∷ []
  pub are : AreParameters (entries_of later)

pub grown : (kept later : List (Key × ArrayVec ℕ)) (key : Key) (value : ArrayVec ℕ) (octets : List ℕ) → value.items ≡ octets
    → IsKey key → add_fault (entries_of kept) key octets ≡ None → later ≡ kept ++ (key, value) ∷ []
    → AreParameters (entries_of kept) → Grown kept later key octets
grown kept later key value octets is in_range none made are =
    let whole : entries_of later ≡ entries_of kept ++ (key, octets) ∷ [] =
    ap entries_of made ∙ map-append _ kept ((key, value) ∷ []) ∙ ap (λ (o : List ℕ). entries_of kept ++ (key, o) ∷ []) is in
    record {
      entries = whole;
      are = subst AreParameters (sym whole)
          (one-more (entries_of kept) key octets are in_range (may_be_added (entries_of kept) key octets none));
    }

-- ---- one written

pub entries_of-written : (kept : List (Key × ArrayVec ℕ)) (key : Key) (value : ArrayVec ℕ)
    → entries_of (insert_entry same_key kept key value) ≡ insert_entry same_key (entries_of kept) key value.items
entries_of-written [] key value = refl
entries_of-written (entry ∷ kept) key value =
    elim (same_key key entry.0) as (λ here. entries_of (cond here ((entry.0, value) ∷ kept) (entry ∷ insert_entry same_key kept key value))
    ≡ cond here ((entry.0, value.items) ∷ entries_of kept)
    ((entry.0, entry.1.items) ∷ insert_entry same_key (entries_of kept) key value.items)) [
      | true ↦ refl
      | false ↦ ap (λ es. (entry.0, entry.1.items) ∷ es) (entries_of-written kept key value)
    ]

-- writing an existing parameter with at most 232 octets leaves parameters with the same keys and
-- the same number
pub record Written (old new : List Entry) : Type 0 where
  pub each : All IsEntry new
  pub keys : keys_of new ≡ keys_of old
  pub many : length new ≡ length old

pub written : (parameters : List Entry) (key : Key) (octets : List ℕ) → All IsEntry parameters → length octets ≤ MOST_ENTRY_OCTETS
    → is_some (data_at parameters key) ≡ true → Written parameters (insert_entry same_key parameters key octets)
written [] key octets each short there = cc
written (entry ∷ parameters) key octets each short there =
    by (same_key key entry.0) (λ later. written parameters key octets (All-tail IsEntry entry parameters each) short later) there
  where
    by : (here : Bool) → (is_some (data_at parameters key) ≡ true → Written parameters (insert_entry same_key parameters key octets))
        → is_some (cond here (Some entry.1) (data_at parameters key)) ≡ true
        → Written (entry ∷ parameters) (cond here ((entry.0, octets) ∷ parameters) (entry ∷ insert_entry same_key parameters key octets))
    by true more there =
        let head = All-head IsEntry entry parameters each in
        record {
          each = All-cons IsEntry (entry.0, octets) parameters (record { key = head.key; free = head.free; short = short })
              (All-tail IsEntry entry parameters each);
          keys = refl;
          many = refl;
        }
    by false more there =
        let after = more there in
        record {
          each = All-cons IsEntry entry (insert_entry same_key parameters key octets) (All-head IsEntry entry parameters each) after.each;
          keys = ap (λ keys. entry.0 ∷ keys) after.keys;
          many = omega (arith, after.many);
        }

pub are-written : (parameters : List Entry) (key : Key) (octets : List ℕ) → AreParameters parameters → length octets ≤ MOST_ENTRY_OCTETS
    → is_some (data_at parameters key) ≡ true → AreParameters (insert_entry same_key parameters key octets)
are-written parameters key octets are short there =
    let after = written parameters key octets are.each short there in
    record {
      each = after.each;
      distinct = subst (IsDistinct same_key) (sym after.keys) are.distinct;
      few = omega (arith, after.many, are.few);
    }

-- ---- one at its place

pub at-place : (parameters : List Entry) (place : ℕ) (entry : Entry) → All IsEntry parameters
    → slice_get parameters place ≡ Some entry → IsEntry entry
at-place [] place entry each is = cc
at-place (other ∷ parameters) zero entry each is =
    let same : other ≡ entry = cc in subst IsEntry same (All-head IsEntry other parameters each)
at-place (other ∷ parameters) (suc place) entry each is = at-place parameters place entry (All-tail IsEntry other parameters each) is

pub at-kept : (kept : List (Key × ArrayVec ℕ)) (place : ℕ) (entry : Key × ArrayVec ℕ) → slice_get kept place ≡ Some entry
    → slice_get (entries_of kept) place ≡ Some (entry.0, entry.1.items)
at-kept [] place entry is = cc
at-kept (other ∷ kept) zero entry is = let same : other ≡ entry = cc in ap (λ e. Some (e.0, e.1.items)) same
at-kept (other ∷ kept) (suc place) entry is = at-kept kept place entry is
