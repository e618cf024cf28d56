-- Entries read one after the other, as a loop reads them.
use Rattle.std.proofs.Common.{◌≡◌, ℕ, ◌+◌, ◌<◌, ◌≤◌, inl, inr, subst, arith, List, [], ◌∷◌, ◌++◌, Result, Ok, Err, refl, sym, ap, ◌∙◌}
use Rattle.std.proofs.Common.{add-one, append_assoc}
use Rattle.std.specs.Prelude.{IsOk, min}
use Rattle.std.proofs.Math.Nat.{min-eq_left}
use Rattle.std.proofs.lemmas.Bool.{cases_lt}
use Rattle.std.proofs.lemmas.List.{append-nil}
use Rattle.iol_types.specs.DataSet.{Entry}
use Rattle.iol_record.specs.declared.fault.RecordFault.{RecordFault}
use Rattle.iol_record.specs.declared.fault.RecordFault.TheVariants.{Short, BadTag, BadField, Memory}
use Rattle.iol_record.specs.Reading.{joined, entry_at, entries_at, IsReadFault}

-- the entries already read, and those that are still to be read
abbrev pub all_with : List Entry → ℕ → List ℕ → Result (List Entry × List ℕ) RecordFault
all_with built left octets = joined (λ (more : List Entry). built ++ more) (entries_at left built) octets

regrouped : (built : List Entry) (entry : Entry) (read : Result (List Entry × List ℕ) RecordFault)
    → joined (λ (more : List Entry). built ++ more) (joined (λ (more : List Entry). entry ∷ more) (λ octets. read)) []
    ≡ joined (λ (more : List Entry). (built ++ entry ∷ []) ++ more) (λ octets. read) []
regrouped built entry (Ok more) = rw (append_assoc built (entry ∷ []) more.0) refl
regrouped built entry (Err fault) = refl

with_none : (read : Result (List Entry × List ℕ) RecordFault) → joined (λ (more : List Entry). [] ++ more) (λ octets. read) [] ≡ read
with_none (Ok more) = refl
with_none (Err fault) = refl

-- if none was read before, these are the entries still to be read
pub with-empty : (left : ℕ) (octets : List ℕ) → all_with [] left octets ≡ entries_at left [] octets
with-empty left octets = with_none (entries_at left [] octets)

-- reading one more entry does not change the whole
pub with-one_more : (built : List Entry) (entry : Entry) (left : ℕ) (octets rest : List ℕ) → entry_at built octets ≡ Ok (entry, rest)
    → all_with built (left + 1) octets ≡ all_with (built ++ entry ∷ []) left rest
with-one_more built entry left octets rest read = rw (add-one, read) (regrouped built entry (entries_at left (built ++ entry ∷ []) rest))

pub with-fault : (built : List Entry) (left : ℕ) (octets : List ℕ) (fault : RecordFault) → entry_at built octets ≡ Err fault
    → all_with built (left + 1) octets ≡ Err fault
with-fault built left octets fault read = rw (add-one, read) refl

pub with-none : (built : List Entry) (octets : List ℕ) → all_with built 0 octets ≡ Ok (built, octets)
with-none built octets = ap (λ (entries : List Entry). Ok (entries, octets)) (append-nil built)

-- the first entry is read if it is complete and in range
pub first-read : (count : ℕ) (octets : List ℕ) → 1 ≤ count → IsOk (entry_at [] octets) → IsOk (entries_at (min 1 count) [] octets)
first-read count octets some read = rw (min-eq_left some) (by (entry_at [] octets) refl read)
  where
    by : (r : Result (Entry × List ℕ) RecordFault) → entry_at [] octets ≡ r → IsOk r → IsOk (entries_at 1 [] octets)
    by (Ok entry) is ok = rw is refl
    by (Err fault) is ok = cc

-- a fault at an entry is the fault of all
pub at-fault : (built : List Entry) (left count : ℕ) (octets old : List ℕ) (fault : RecordFault)
    → IsReadFault (entry_at built octets) fault (entry_at built octets)
    → all_with built (left + 1) octets ≡ entries_at count [] old → (IsOk (entry_at built octets) → IsOk (entries_at (min 1 count) [] old))
    → IsReadFault (entries_at (min 1 count) [] old) fault (entries_at count [] old)
at-fault built left count octets old Memory is all begun = begun is
at-fault built left count octets old Short is all begun = sym all ∙ with-fault built left octets Short is
at-fault built left count octets old BadTag is all begun = sym all ∙ with-fault built left octets BadTag is
at-fault built left count octets old BadField is all begun = sym all ∙ with-fault built left octets BadField is

-- if an entry is read in its turn, the first one was
pub has-begun : (built : List Entry) (counter count : ℕ) (octets old : List ℕ) → counter < count
    → (counter ≡ 0 → (built ≡ []) × (octets ≡ old))
    → (1 ≤ counter → IsOk (entries_at (min 1 count) [] old)) → IsOk (entry_at built octets) → IsOk (entries_at (min 1 count) [] old)
has-begun built counter count octets old left start begun read =
    elim (cases_lt 0 counter) [
      | inl some ↦ begun (omega (arith, some))
      | inr none ↦
          let first = start (omega (arith, none)) in
          first-read count old (omega (arith, left))
          (subst (λ (o : List ℕ). IsOk (entry_at [] o)) first.1
          (subst (λ (entries : List Entry). IsOk (entry_at entries octets)) first.0 read))
    ]
