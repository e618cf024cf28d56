-- A table of a verb is a request if it has no other key and the value at each of its keys is allowed.
use Rattle.std.proofs.Common.{◌≡◌, ℕ, Bool, true, false, not, ◌&&◌, cond, List, [], ◌∷◌, Option, Some, None, option_and_then, option_map}
use Rattle.std.proofs.Common.{sym, ap, refl, subst}
use Rattle.std.specs.Prelude.{find, is_some, codes}
use Rattle.std.proofs.lemmas.Option.{none-some}
use Rattle.std.proofs.lemmas.Slice.Eq.{bytes_eq-Decides}
use Rattle.std.specs.Str.{bytes_eq}
use Rattle.toml.specs.Data.{Data, Members, get_member}
use Rattle.iol_script.specs.Number.{port_in, vendor_in, device_in}
use Rattle.iol_script.specs.Step.{mode_in, validation_in, label_in, label_or_none, configure_keys}
use Rattle.iol_script.specs.Table.{has_only_keys, text_at}
use Rattle.iol_requests.specs.Key.{all_keys, keys_of, is_wrong, wrong_key}
use Rattle.iol_requests.specs.Request.{request_by, verb_at, port_if}
use Rattle.iol_requests.specs.Verb.{verb_name, verbs, verb_of}
use Rattle.iol_requests.specs.declared.key.Key.{Key}
use Rattle.iol_requests.specs.declared.key.Key.TheVariants.{Do, Port, Mode, Validation, Vendor, Device, Label, Id}
use Rattle.iol_requests.specs.declared.verb.Verb.{Verb}
use Rattle.iol_requests.specs.declared.verb.Verb.TheVariants.{Configure, Clear, Rollback, Read, Status, Help, Quit}

-- what a search finds passes its test
find_passes : {A : Type 0} (p : A → Bool) (xs : List A) (y : A) → find p xs ≡ Some y → p y ≡ true
find_passes p [] y found = absurd (cc)
find_passes {A = A} p (x ∷ xs) y found = step (find_passes p xs y) (p x) refl found
  where
    step : (find p xs ≡ Some y → p y ≡ true) → (b : Bool) → p x ≡ b → cond b (Some x) (find p xs) ≡ Some y → p y ≡ true
    step others true passes same = let e : x ≡ y = cc in subst (λ (z : A). p z ≡ true) e passes
    step others false fails more = others more

-- each of these elements fails a test
abbrev misses : {A : Type 0} (p : A → Bool) → List A → Type 0
misses p [] = Unit {0}
misses p (x ∷ xs) = (p x ≡ false) × misses p xs

-- if a search finds nothing, every element fails its test
find_misses : {A : Type 0} (p : A → Bool) (xs : List A) → find p xs ≡ None → misses p xs
find_misses p [] none = tt
find_misses p (x ∷ xs) none = step (find_misses p xs) (p x) refl none
  where
    step : (find p xs ≡ None → misses p xs) → (b : Bool) → p x ≡ b → cond b (Some x) (find p xs) ≡ None → misses p (x ∷ xs)
    step others true passes found = absurd (cc)
    step others false fails more = (fails, others more)

-- a value that is not missing is there
some_value : {A : Type 0} (o : Option A) → not (is_some o) ≡ false → (x : A) × (o ≡ Some x)
some_value None missing = absurd (cc)
some_value (Some x) there = (x, refl)

-- the verb that is found for a word has that word
verb_word : (word : List ℕ) (verb : Verb) → verb_of word ≡ Some verb → word ≡ verb_name verb
verb_word word verb found =
    let same : bytes_eq (verb_name verb) word ≡ true = find_passes (λ (v : Verb). bytes_eq (verb_name v) word) verbs verb found in
    sym ((bytes_eq-Decides (verb_name verb) word).0 same)

word_of : (word : Option (List ℕ)) (verb : Verb) → option_and_then verb_of word ≡ Some verb → word ≡ Some (verb_name verb)
word_of None verb is = absurd (cc)
word_of (Some word) verb is = ap Some (verb_word word verb is)

-- the port of a request is read, if it has one
port_there : (port : Option Data) (table : Members) → (is_some port && not (is_some (port_in table))) ≡ false
    → (number : Option ℕ) × (port_if port table ≡ Some number)
port_there None table right = (None, refl)
port_there (Some value) table right = let port = some_value (port_in table) right in (Some port.0, ap (option_map Some) port.1)

-- each verb in turn
configures : (table : Members) → text_at (codes "do") table ≡ Some (codes "configure") → has_only_keys configure_keys table ≡ true
    → wrong_key Configure table ≡ None → request_by Configure table ≡ None → ⊥
configures table word only right none =
    let all = find_misses (is_wrong Configure table) all_keys right in
    let port = some_value (port_in table) all.1.0 in
    let mode = some_value (mode_in table) all.1.1.0 in
    let validation = some_value (validation_in table) all.1.1.1.0 in
    let vendor = some_value (vendor_in table) all.1.1.1.1.0 in
    let device = some_value (device_in table) all.1.1.1.1.1.0 in
    let label = label_there (get_member (codes "label") table) all.1.1.1.1.1.1.0 in
    none-some _ (sym (rw (word, only, port.1, mode.1, validation.1, vendor.1, device.1, label.1) at none))
  where
    label_there : (label : Option Data) → (is_some label && not (is_some (label_or_none label))) ≡ false
        → (octets : List ℕ) × (label_or_none label ≡ Some octets)
    label_there None right = ([], refl)
    label_there (Some value) right = some_value (label_or_none (Some value)) right

clears : (table : Members) → text_at (codes "do") table ≡ Some (codes "clear") → has_only_keys (keys_of Clear) table ≡ true
    → wrong_key Clear table ≡ None → request_by Clear table ≡ None → ⊥
clears table word only right none =
    let all = find_misses (is_wrong Clear table) all_keys right in
    let port = some_value (port_in table) all.1.0 in
    none-some _ (sym (rw (word, only, port.1) at none))

rolls_back : (table : Members) → text_at (codes "do") table ≡ Some (codes "rollback") → has_only_keys (keys_of Rollback) table ≡ true
    → wrong_key Rollback table ≡ None → request_by Rollback table ≡ None → ⊥
rolls_back table word only right none =
    let all = find_misses (is_wrong Rollback table) all_keys right in
    let port = some_value (port_in table) all.1.0 in
    none-some _ (sym (rw (word, only, port.1) at none))

reads : (table : Members) → has_only_keys (keys_of Read) table ≡ true → wrong_key Read table ≡ None
    → request_by Read table ≡ None → ⊥
reads table only right none =
    let all = find_misses (is_wrong Read table) all_keys right in
    let port = some_value (port_in table) all.1.0 in
    none-some _ (sym (rw (only, port.1) at none))

status : (table : Members) → has_only_keys (keys_of Status) table ≡ true → wrong_key Status table ≡ None
    → request_by Status table ≡ None → ⊥
status table only right none =
    let all = find_misses (is_wrong Status table) all_keys right in
    let port = port_there (get_member (codes "port") table) table all.1.0 in
    none-some _ (sym (rw (only, port.1) at none))

alone : (table : Members) → has_only_keys (keys_of Help) table ≡ true
    → (request_by Help table ≡ None → ⊥) × (request_by Quit table ≡ None → ⊥)
alone table only = ((λ none. none-some _ (sym (rw only at none))), (λ none. none-some _ (sym (rw only at none))))

-- if a table with only the keys of its verb is no request, one of them is wrong
pub is_request : (verb : Verb) (table : Members) → verb_at table ≡ Some verb → has_only_keys (keys_of verb) table ≡ true
    → wrong_key verb table ≡ None → request_by verb table ≡ None → ⊥
is_request Configure table verb only right none = configures table (word_of _ Configure verb) only right none
is_request Clear table verb only right none = clears table (word_of _ Clear verb) only right none
is_request Rollback table verb only right none = rolls_back table (word_of _ Rollback verb) only right none
is_request Read table verb only right none = reads table only right none
is_request Status table verb only right none = status table only right none
is_request Help table verb only right none = (alone table only).0 none
is_request Quit table verb only right none = (alone table only).1 none
