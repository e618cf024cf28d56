-- The parameters in a script are parameters that a simulated device may have.
use Rattle.std.proofs.Common.{◌≡◌, refl, ℕ, ◌<◌, ◌≤◌, ◌^◌, Bool, true, false, ◌&&◌, ◌||◌, not, if◌then◌else◌, List, [], ◌∷◌, length, Option}
use Rattle.std.proofs.Common.{Some, None, subst, arith}
use Rattle.std.specs.Prelude.{ℤ, pos, negsuc, nat_lt, nat_le, option_and_then, option_map}
use Rattle.std.specs.List.{AllByRecursion, list_any, IsDistinct}
use Rattle.std.specs.Map.{keys_of}
use Rattle.std.specs.Result.{result_ok}
use Rattle.std.proofs.lemmas.Bool.{and_parts}
use Rattle.std.proofs.lemmas.Bool.Decides.{nat_tests}
use Rattle.std.proofs.lemmas.List.Elements.{All-from_recursion}
use Rattle.std.proofs.lemmas.Option.{option_and_then_some, cond_some}
use Rattle.hex.specs.Hex.{decode_of}
use Rattle.toml.specs.Data.{Data, Items, no_items, item, as_integer, as_array, as_str}
use Rattle.iol_types.specs.DataSet.{Entry, IsEntry}
use Rattle.iol_types.specs.Key.{IsKey, same_key, is_reserved}
use Rattle.iol_types.specs.declared.key.Key.{Key}
use Rattle.iol_types.specs.declared.data_set.TheConstants.{MOST_ENTRY_OCTETS}
use Rattle.iol_script.specs.Number.{below, number_of}
use Rattle.iol_script.specs.Parameter.{free_key, key_of_pair, key_of_items, key_of, short_octets, octets_in, octets_of, parameter_of}
use Rattle.iol_script.specs.Parameters.{parameters_of, are_distinct, of_device}
use Rattle.iol_script.specs.declared.parameters.TheConstants.{MOST_PARAMETERS}
use Rattle.iol_sim.specs.Parameters.{AreParameters}

-- ---- the option that a function makes of another

pub map_some : {A B P : Type 0} (f : A → B) (o : Option A) (y : B) → option_map f o ≡ Some y → ((x : A) → o ≡ Some x → f x ≡ y → P) → P
map_some f None y is found = cc
map_some f (Some x) y is found = found x refl cc

-- ---- numbers, keys and octets

below_bound : (bound : ℕ) (i : ℤ) (n : ℕ) → below bound i ≡ Some n → n < bound
below_bound bound (pos m) n is =
    let parts = cond_some (nat_lt m bound) m n is in
    grind (arith, nat_tests, parts.0, parts.1)
below_bound bound (negsuc m) n is = cc

number_bound : (bound : ℕ) (value : Data) (n : ℕ) → number_of bound value ≡ Some n → n < bound
number_bound bound value n is = option_and_then_some (below bound) (as_integer value) n is (λ i read low. below_bound bound i n low)

-- a key in range that is not reserved
record IsFree (key : Key) : Type 0 where
  pub in_range : IsKey key
  pub free : is_reserved key ≡ false

key_free : (made key : Key) → IsKey made → free_key made ≡ Some key → IsFree key
key_free made key in_range is = by (is_reserved made) refl is
  where
    by : (reserved : Bool) → is_reserved made ≡ reserved → (if reserved then None else Some made) ≡ Some key → IsFree key
    by true r none = cc
    by false r some =
        let same : made ≡ key = cc in
        subst IsFree same (record { in_range = in_range; free = r })

pair_free : (first second : Data) (key : Key) → key_of_pair first second ≡ Some key → IsFree key
pair_free first second key is =
    option_and_then_some (λ (index : ℕ).
    option_and_then (λ (subindex : ℕ). free_key (record { index = index; subindex = subindex })) (number_of (2 ^ 8) second))
    (number_of (2 ^ 16) first) key is (λ index read rest.
    option_and_then_some (λ (subindex : ℕ). free_key (record { index = index; subindex = subindex })) (number_of (2 ^ 8) second) key rest
    (λ subindex said free.
    key_free (record { index = index; subindex = subindex }) key
    (record { index = number_bound (2 ^ 16) first index read; subindex = number_bound (2 ^ 8) second subindex said }) free))

items_free : (items : Items) (key : Key) → key_of_items items ≡ Some key → IsFree key
items_free no_items key is = cc
items_free (item first no_items) key is = cc
items_free (item first (item second no_items)) key is = pair_free first second key is
items_free (item first (item second (item third others))) key is = cc

of_key : (value : Data) (key : Key) → key_of value ≡ Some key → IsFree key
of_key value key is = option_and_then_some key_of_items (as_array value) key is (λ items read free. items_free items key free)

of_short : (all octets : List ℕ) → short_octets all ≡ Some octets → length octets ≤ MOST_ENTRY_OCTETS
of_short all octets is =
    let parts = cond_some (nat_le (length all) MOST_ENTRY_OCTETS) all octets is in
    let short : length all ≤ MOST_ENTRY_OCTETS = grind (arith, nat_tests, parts.0) in
    subst (λ (o : List ℕ). length o ≤ MOST_ENTRY_OCTETS) parts.1 short

of_octets : (value : Data) (octets : List ℕ) → octets_of value ≡ Some octets → length octets ≤ MOST_ENTRY_OCTETS
of_octets value octets is =
    option_and_then_some octets_in (as_str value) octets is (λ text read in_text.
    option_and_then_some short_octets (result_ok (decode_of text)) octets in_text (λ all decoded short. of_short all octets short))

-- ---- parameters

of_parameter : (key octets : Data) (entry : Entry) → parameter_of key octets ≡ Some entry → IsEntry entry
of_parameter key octets entry is =
    option_and_then_some (λ (name : Key). option_map (λ (said : List ℕ). (name, said)) (octets_of octets)) (key_of key) entry is
    (λ name named rest.
    map_some (λ (said : List ℕ). (name, said)) (octets_of octets) entry rest (λ said read same.
    let free = of_key key name named in
    subst IsEntry same (record { key = free.in_range; free = free.free; short = of_octets octets said read })))

of_parameters : (keys values : Items) (parameters : List Entry) → parameters_of keys values ≡ Some parameters
    → AllByRecursion IsEntry parameters
of_parameters no_items no_items parameters is =
    let none : ◌≡◌ {A = List Entry} [] parameters = cc in
    subst (AllByRecursion IsEntry) none tt
of_parameters no_items (item value values) parameters is = cc
of_parameters (item key keys) no_items parameters is = cc
of_parameters (item key keys) (item value values) parameters is =
    option_and_then_some (λ (entry : Entry). option_map (λ (others : List Entry). entry ∷ others) (parameters_of keys values))
    (parameter_of key value) parameters is
    (λ entry first rest.
    map_some (λ (others : List Entry). entry ∷ others) (parameters_of keys values) parameters rest (λ others more same.
    subst (AllByRecursion IsEntry) same (of_parameter key value entry first, of_parameters keys values others more)))

-- ---- all keys are distinct

apart_from : (key : Key) (keys : List Key) → list_any (same_key key) keys ≡ false
    → AllByRecursion (λ other. same_key key other ≡ false) keys
apart_from key [] none = tt
apart_from key (other ∷ keys) none = by (same_key key other) refl none (λ left. apart_from key keys left)
  where
    by : (same : Bool) → same_key key other ≡ same → (same || list_any (same_key key) keys) ≡ false
        → (list_any (same_key key) keys ≡ false → AllByRecursion (λ o. same_key key o ≡ false) keys)
        → (same_key key other ≡ false) × AllByRecursion (λ o. same_key key o ≡ false) keys
    by true is never others = cc
    by false is left others = (is, others left)

distinct_are : (keys : List Key) → are_distinct keys ≡ true → IsDistinct same_key keys
unfolding IsDistinct
distinct_are [] are = tt
distinct_are (key ∷ keys) are =
    let parts = and_parts (not (list_any (same_key key) keys)) (are_distinct keys) are in
    (apart_from key keys (none (list_any (same_key key) keys) parts.0), distinct_are keys parts.1)
  where
    none : (b : Bool) → not b ≡ true → b ≡ false
    none true is = cc
    none false is = refl

-- the parameters that a device of a script may have are parameters that a simulated device may have
pub of_a_device : (keys values : Items) (all parameters : List Entry) → parameters_of keys values ≡ Some all → of_device all
    ≡ Some parameters
    → AreParameters parameters
of_a_device keys values all parameters read is =
    let parts = cond_some (nat_le (length all) MOST_PARAMETERS && are_distinct (keys_of all)) all parameters is in
    let tests = and_parts (nat_le (length all) MOST_PARAMETERS) (are_distinct (keys_of all)) parts.0 in
    let few : length all ≤ 70 = grind (arith, nat_tests, tests.0) in
    let are : AreParameters all = record {
      each = All-from_recursion IsEntry all (of_parameters keys values all read);
      distinct = distinct_are (keys_of all) tests.1;
      few = few;
    } in
    subst AreParameters parts.1 are
