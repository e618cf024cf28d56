-- A simulated device refuses none of the parameters that it may have, added one after another.
use Rattle.std.proofs.Common.{◌≡◌, refl, ℕ, ◌+◌, ◌<◌, false, true, List, ◌∷◌, ◌++◌, length, get_or, take, drop, Some, None}
use Rattle.std.proofs.Common.{is_some, ◌⊎◌, inl, inr, ap, sym, ◌∙◌, subst, arith, length-append, add-one, drop-cons}
use Rattle.std.specs.Prelude.{nat_lt}
use Rattle.std.specs.List.{IsDistinct}
use Rattle.std.specs.Map.{keys_of}
use Rattle.std.proofs.Math.Seq.{get_or-append_seam}
use Rattle.std.proofs.lemmas.Bool.Decides.{nat_tests}
use Rattle.std.proofs.lemmas.List.{map-append, take-append-drop}
use Rattle.iol_script.specs.Parameter.{entry_of}
use Rattle.iol_script.specs.Parameters.{entries_of}
use Rattle.iol_script.specs.declared.parameter.Parameter.{Parameter}
use Rattle.iol_sim.specs.Parameters.{AreParameters, add_fault}
use Rattle.iol_sim.specs.declared.parameters.TheConstants.{MOST_PARAMETERS}
use Rattle.iol_types.proofs.Entries.{absent-before}
use Rattle.iol_types.specs.DataSet.{Entry, IsEntry, data_at}
use Rattle.iol_sim.specs.declared.parameters.DeviceFault.{DeviceFault}
use Rattle.iol_sim.specs.declared.parameters.DeviceFault.TheVariants.{Memory}
use Rattle.iol_types.specs.Key.{same_key, is_reserved}
use Rattle.iol_types.specs.declared.key.Key.{Key}
use Rattle.iol_types.specs.declared.data_set.TheConstants.{MOST_ENTRY_OCTETS}

next_accepted : (before : List Entry) (entry : Entry) (behind : List Entry) → AreParameters (before ++ entry ∷ behind)
    → add_fault before entry.0 entry.1 ≡ None
next_accepted before entry behind are =
    let there : length before < length (before ++ entry ∷ behind) = omega (arith, length-append before (entry ∷ behind)) in
    let is : IsEntry entry = subst IsEntry (get_or-append_seam before entry behind entry) (are.each (length before) entry there) in
    let free : is_reserved entry.0 ≡ false = is.free in
    let long : nat_lt MOST_ENTRY_OCTETS (length entry.1) ≡ false = grind (arith, nat_tests, is.short) in
    let absent : is_some (data_at before entry.0) ≡ false =
    absent-before before entry.0 (keys_of behind)
    (subst (IsDistinct same_key) (map-append (λ (e : Entry). e.0) before (entry ∷ behind)) are.distinct) in
    let fewer : length before < MOST_PARAMETERS = omega (arith, length-append before (entry ∷ behind), are.few) in
    let few : nat_lt (length before) MOST_PARAMETERS ≡ true = grind (arith, nat_tests, fewer) in
    rw (free, long, absent, few) refl

-- the parameter at a place is accepted after those before it
pub accepted : (parameters : List Parameter) (place : ℕ) (parameter : Parameter) → place < length parameters
    → parameter ≡ get_or parameters place parameter → AreParameters (entries_of parameters)
    → add_fault (entries_of (take place parameters)) parameter.key parameter.octets.items ≡ None
accepted parameters place parameter there is are =
    next_accepted (entries_of (take place parameters)) (entry_of parameter) (entries_of (drop (place + 1) parameters))
    (subst AreParameters whole are)
  where
    parted : parameters ≡ take place parameters ++ parameter ∷ drop (place + 1) parameters
    parted =
        let split : drop place parameters ≡ get_or parameters place parameter ∷ drop (place + 1) parameters =
        rw (add-one, drop-cons parameters place parameter) refl in
        sym (take-append-drop place parameters)
        ∙ ap (λ (rest : List Parameter). take place parameters ++ rest)
        (split ∙ ap (λ (p : Parameter). p ∷ drop (place + 1) parameters) (sym is))

    whole : entries_of parameters ≡ entries_of (take place parameters) ++ entry_of parameter ∷ entries_of (drop (place + 1) parameters)
    whole = ap entries_of parted ∙ map-append entry_of (take place parameters) (parameter ∷ drop (place + 1) parameters)

-- if nothing else refuses a parameter, the only fault is memory
pub only_memory : (before : List Entry) (key : Key) (octets : List ℕ) (fault : DeviceFault) → add_fault before key octets ≡ None
    → (add_fault before key octets ≡ Some fault) ⊎ ((add_fault before key octets ≡ None) × (fault ≡ Memory)) → fault ≡ Memory
only_memory before key octets fault none (inl refused) = cc
only_memory before key octets fault none (inr missing) = missing.1
