-- Keys and the places of their octets, as entries.
use Rattle.std.proofs.Common.{◌≡◌, ℕ, ◌+◌, Bool, true, false, cond, List, [], ◌∷◌, ◌++◌, length, Option, Some, None, refl}
use Rattle.std.proofs.Common.{ap, sym, ◌∙◌, arith, is_some}
use Rattle.std.specs.Option.{option_map}
use Rattle.std.specs.Map.{lookup}
use Rattle.std.specs.List.{AllByRecursion}
use Rattle.std.proofs.lemmas.List.{map_push}
use Rattle.iol_types.specs.DataSet.{Entry, octets_of}
use Rattle.iol_types.specs.Parts.{PartsValue, IsWithin, octets_at, entry_octets, with_text, grown, data_after}
use Rattle.iol_types.specs.EntriesInMemory.{entries_of, AreKept}
use Rattle.iol_types.specs.declared.key.Key.{Key}
use Rattle.iol_types.specs.declared.parts.PartPlace.{PartPlace}
use Rattle.iol_types.specs.declared.data_set.TheConstants.{ENTRY_HEAD_OCTETS}
use Rattle.iol_types.proofs.Entries.{octets_of-push}
use Rattle.iol_types.proofs.PartLemmas.{stays, data_lies, grown-push}

-- all places are within the parts
abbrev AreWithin : PartsValue → List (Key × PartPlace) → Type 0
AreWithin parts kept = AllByRecursion (λ (entry : Key × PartPlace). IsWithin parts entry.1) kept

module _ (parts : PartsValue) where
  -- a look-up among the entries is one among the keys
  pub lookup-entries_of : (test : Key → Bool) (kept : List (Key × PartPlace)) → lookup test (entries_of parts kept)
      ≡ option_map (octets_at parts) (lookup test kept)
  lookup-entries_of test [] = refl
  lookup-entries_of test (entry ∷ kept) =
      elim (test entry.0) as (λ here. cond here (Some (octets_at parts entry.1)) (lookup test (entries_of parts kept))
      ≡ option_map (octets_at parts) (cond here (Some entry.1) (lookup test kept))) [
        | true ↦ refl
        | false ↦ lookup-entries_of test kept
      ]

  pub is_some-entries_of : (test : Key → Bool) (kept : List (Key × PartPlace)) → is_some (lookup test (entries_of parts kept))
      ≡ is_some (lookup test kept)
  is_some-entries_of test kept =
      ap is_some (lookup-entries_of test kept)
      ∙ elim (lookup test kept) as (λ found. is_some (option_map (octets_at parts) found) ≡ is_some found)
      [ None ↦ refl | Some place ↦ refl ]

  pub none-entries_of : (test : Key → Bool) (kept : List (Key × PartPlace)) → is_some (lookup test (entries_of parts kept)) ≡ false
      → lookup test kept ≡ None
  none-entries_of test kept absent = by (lookup test kept) refl
    where
      by : (found : Option PartPlace) → lookup test kept ≡ found → lookup test kept ≡ None
      by None is = is
      by (Some found) is = let both : true ≡ false = sym (ap is_some is) ∙ sym (is_some-entries_of test kept) ∙ absent in cc

  -- a place that is found is within the parts
  pub within-found : (test : Key → Bool) (kept : List (Key × PartPlace)) (place : PartPlace) → AreWithin parts kept
      → lookup test kept ≡ Some place
      → IsWithin parts place
  within-found test [] place are found = absurd cc
  within-found test (entry ∷ kept) place are found =
      by (test entry.0) (λ further. within-found test kept place are.1 further) found
    where
      by : (here : Bool) → (lookup test kept ≡ Some place → IsWithin parts place)
          → cond here (Some entry.1) (lookup test kept) ≡ Some place → IsWithin parts place
      by true further found = let same : entry.1 ≡ place = cc in rw (sym same) are.0
      by false further found = further found

-- ---- one more entry

same-behind : (parts : PartsValue) (text : List ℕ) (kept : List (Key × PartPlace)) → AreWithin parts kept
    → entries_of (with_text parts text) kept ≡ entries_of parts kept
same-behind parts text [] are = refl
same-behind parts text (entry ∷ kept) are =
    let first = (stays parts text entry.1 are.0).octets in
    let rest = same-behind parts text kept are.1 in
    λ i. (entry.0, first i) ∷ rest i

within-behind : (parts : PartsValue) (text : List ℕ) (kept : List (Key × PartPlace)) (one : Key × PartPlace) → AreWithin parts kept
    → IsWithin (with_text parts text) one.1 → AreWithin (with_text parts text) (kept ++ one ∷ [])
within-behind parts text [] one are is = (is, tt)
within-behind parts text (entry ∷ kept) one are is =
    ((stays parts text entry.1 are.0).within, within-behind parts text kept one are.1 is)

-- what is kept after an entry was added
pub record Pushed (parts : PartsValue) (kept : List (Key × PartPlace)) (octets : ℕ) (said : List Entry) : Type 0 where
  pub entries : entries_of parts kept ≡ said
  pub are : AreKept parts kept octets

pub pushed : (parts : PartsValue) (kept : List (Key × PartPlace)) (count : ℕ) (key : Key) (octets : List ℕ) → AreKept parts kept count
    → Pushed (with_text parts (entry_octets (key, octets)))
    (kept ++ (key, data_after parts (length octets)) ∷ [])
    (count + (ENTRY_HEAD_OCTETS + length octets))
    (entries_of parts kept ++ (key, octets) ∷ [])
pushed parts kept count key octets are =
    let text = entry_octets (key, octets) in
    let later = with_text parts text in
    let place = data_after parts (length octets) in
    let there = data_lies parts key octets in
    let entries = entries_of parts kept in
    let whole : entries_of later (kept ++ (key, place) ∷ []) ≡ entries ++ (key, octets) ∷ [] =
    map_push _ kept (key, place)
    ∙ ap (λ front. front ++ (key, octets_at later place) ∷ []) (same-behind parts text kept are.within)
    ∙ ap (λ (said : List ℕ). entries ++ (key, said) ∷ []) there.octets in
    record {
      entries = whole;
      are = record {
        made = ap (λ before. with_text before text) are.made ∙ sym (grown-push entries (key, octets)) ∙ sym (ap grown whole);
        within = within-behind parts text kept (key, place) are.within there.within;
        counted = omega (arith, are.counted, octets_of-push entries key octets, ap octets_of whole);
      };
    }
