-- Writes to rising sectors, and images that have what was written.
use Rattle.std.proofs.Common.{◌≡◌, ◌≢◌, ◌≤◌, ◌<◌, ◌⊎◌, inl, inr, ℕ, zero, suc, ◌+◌, List, [], ◌∷◌, ◌++◌, length, map, take, slice_get, Some}
use Rattle.std.proofs.Common.{refl, ◌∙◌, ap, subst, arith}
use Rattle.std.specs.List.{range_with_len}
use Rattle.std.proofs.lemmas.Bool.{cases_lt}
use Rattle.iol_disk.specs.Content.{Image, Content, reads, wrote}
use Rattle.iol_disk.specs.Calls.{Call, write, sync, content_after_all}
use Rattle.iol_disk.proofs.DiskLaws.{reads-wrote_here, reads-wrote_other}
use Rattle.iol_layout.specs.AreaWrites.{IsRow, HasWrites}

-- ---- where a row is

pub row-within : (low high : ℕ) (calls : List Call) → IsRow low high calls → low ≤ high
row-within low high [] row = row
row-within low high (write sector octets ∷ calls) row = omega (arith, row.0, row-within (sector + 1) high calls row.1)
row-within low high (sync ∷ calls) row = absurd row

pub row-wider : (low low' high : ℕ) (calls : List Call) → low' ≤ low → IsRow low high calls → IsRow low' high calls
row-wider low low' high [] le row = omega (arith, le, row)
row-wider low low' high (write sector octets ∷ calls) le row = (omega (arith, le, row.0), row.1)
row-wider low low' high (sync ∷ calls) le row = absurd row

pub row-higher : (low high high' : ℕ) (calls : List Call) → high ≤ high' → IsRow low high calls → IsRow low high' calls
row-higher low high high' [] le row = omega (arith, le, row)
row-higher low high high' (write sector octets ∷ calls) le row = (row.0, row-higher (sector + 1) high high' calls le row.1)
row-higher low high high' (sync ∷ calls) le row = absurd row

pub row-append : (low mid high : ℕ) (first second : List Call) → IsRow low mid first → IsRow mid high second
    → IsRow low high (first ++ second)
row-append low mid high [] second a b = row-wider mid low high second a b
row-append low mid high (write sector octets ∷ first) second a b = (a.0, row-append (sector + 1) mid high first second a.1 b)
row-append low mid high (sync ∷ first) second a b = absurd a

-- places that rise
pub row-map : (place : ℕ → ℕ) (octets : ℕ → List ℕ) (low high s n : ℕ) → ((k : ℕ) → place k + 1 ≤ place (k + 1)) → low ≤ place s
    → place (s + n) ≤ high
    → IsRow low high (map (λ k. write (place k) (octets k)) (range_with_len s n))
row-map place octets low high s zero rises first last =
    let here : place (s + 0) ≡ place s = ap place (omega arith) in omega (arith, first, last, here)
row-map place octets low high s (suc n) rises first last =
    let next : place (s + 1 + n) ≡ place (s + suc n) = ap place (omega arith) in
    (first, row-map place octets (place s + 1) high (s + 1) n rises (rises s) (omega (arith, last, next)))

-- ---- what an image has

pub has-append : (first second : List Call) (image : Image) → HasWrites (first ++ second) image → HasWrites first image
    × HasWrites second image
has-append [] second image has = (tt, has)
has-append (write sector octets ∷ first) second image has = let rest = has-append first second image has.1 in ((has.0, rest.0), rest.1)
has-append (sync ∷ first) second image has = has-append first second image has

at_or_after : (s k : ℕ) → s ≤ k → (s ≡ k) ⊎ (s + 1 ≤ k)
at_or_after s k from = elim (cases_lt s k) [
  | inl before ↦ inr (omega (arith, before))
  | inr here ↦ inl (omega (arith, here, from))
]

pub has-map : (place : ℕ → ℕ) (octets : ℕ → List ℕ) (s n : ℕ) (image : Image)
    → HasWrites (map (λ k. write (place k) (octets k)) (range_with_len s n)) image
    → (k : ℕ) → s ≤ k → k < s + n → image (place k) ≡ octets k
has-map place octets s zero image has k from below = absurd (omega (arith, from, below))
has-map place octets s (suc n) image has k from below =
    by_place (at_or_after s k from) (λ later. has-map place octets (s + 1) n image has.1 k later (omega (arith, below)))
  where
    by_place : (s ≡ k) ⊎ (s + 1 ≤ k) → (s + 1 ≤ k → image (place k) ≡ octets k) → image (place k) ≡ octets k
    by_place (inl here) rest = subst (λ (i : ℕ). image (place i) ≡ octets i) here has.0
    by_place (inr later) rest = rest later

pub has-same : (low high : ℕ) (calls : List Call) (old new : Image) → IsRow low high calls → ((i : ℕ) → low ≤ i → i < high → new i ≡ old i)
    → HasWrites calls old → HasWrites calls new
has-same low high [] old new row same has = tt
has-same low high (write sector octets ∷ calls) old new row same has =
    let within = row-within (sector + 1) high calls row.1 in (
      same sector row.0 (omega (arith, within)) ∙ has.0,
      has-same (sector + 1) high calls old new row.1 (λ i above below. same i (omega (arith, row.0, above)) below) has.1,
    )
has-same low high (sync ∷ calls) old new row same has = absurd row

-- ---- a row that is written

-- all writes are in the image, and nothing else has changed
pub record IsWritten (low high : ℕ) (calls : List Call) (old new : Image) : Type 0 where
  pub written : HasWrites calls new
  pub others : (i : ℕ) → (i < low) ⊎ (high ≤ i) → new i ≡ old i

pub row-written : (low high : ℕ) (calls : List Call) (c : Content) → IsRow low high calls
    → IsWritten low high calls (reads c) (reads (content_after_all calls c))
row-written low high [] c row = record { written = tt; others = λ i apart. refl }
row-written low high (write sector octets ∷ calls) c row =
    let after = wrote sector octets c in
    let rest = row-written (sector + 1) high calls after row.1 in
    let within = row-within (sector + 1) high calls row.1 in record {
      written = (rest.others sector (inl (omega arith)) ∙ reads-wrote_here sector octets c, rest.written);
      others = λ i apart. rest.others i (wider i apart) ∙ reads-wrote_other sector octets c i (away i within apart);
    }
  where
    wider : (i : ℕ) → (i < low) ⊎ (high ≤ i) → (i < sector + 1) ⊎ (high ≤ i)
    wider i (inl before) = inl (omega (arith, before, row.0))
    wider i (inr behind) = inr behind

    away : (i : ℕ) → sector + 1 ≤ high → (i < low) ⊎ (high ≤ i) → i ≢ sector
    away i within (inl before) = omega (arith, before, row.0)
    away i within (inr behind) = omega (arith, behind, within)
row-written low high (sync ∷ calls) c row = absurd row

-- ---- one more write of a row

-- the write at this place, with which an image has one more of the writes
pub record IsNth (low high : ℕ) (calls : List Call) (i : ℕ) : Type 0 where
  pub sector : ℕ
  pub octets : List ℕ
  pub at_place : slice_get calls i ≡ Some (write sector octets)
  pub from : low ≤ sector
  pub below : sector < high
  pub more : (old new : Image) → ((k : ℕ) → k ≢ sector → new k ≡ old k) → new sector ≡ octets → HasWrites (take i calls) old
      → HasWrites (take (suc i) calls) new

pub row-nth : (low high : ℕ) (calls : List Call) (i : ℕ) → IsRow low high calls → i < length calls → IsNth low high calls i
row-nth low high [] i row less = absurd (omega (arith, less))
row-nth low high (sync ∷ calls) i row less = absurd row
row-nth low high (write sector octets ∷ calls) zero row less =
    let within = row-within (sector + 1) high calls row.1 in record {
      sector = sector;
      octets = octets;
      at_place = refl;
      from = row.0;
      below = omega (arith, within);
      more = λ old new same here has. (here, tt);
    }
row-nth low high (write sector octets ∷ calls) (suc i) row less =
    let rest = row-nth (sector + 1) high calls i row.1 (omega (arith, less)) in record {
      sector = rest.sector;
      octets = rest.octets;
      at_place = rest.at_place;
      from = omega (arith, rest.from, row.0);
      below = rest.below;
      more = λ old new same here has. (same sector (omega (arith, rest.from)) ∙ has.0, rest.more old new same here has.1);
    }
