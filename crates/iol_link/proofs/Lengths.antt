-- The length of ISDUs: each states its own length, and the ISDU of a request in the shortest form
-- has the fewest octets.
use Rattle.std.proofs.Common.{◌≡◌, ◌≢◌, ℕ, ◌+◌, ◌%◌, ◌<◌, ◌≤◌, Bool, true, false, cond, List, [], ◌∷◌, ◌++◌, length, get_or, refl, ap, sym}
use Rattle.std.proofs.Common.{◌∙◌, subst, inl, inr, arith, length-append}
use Rattle.std.specs.Prelude.{◌==◌, nat_lt}
use Rattle.std.proofs.lemmas.Bool.Decides.{nat_tests}
use Rattle.std.proofs.lemmas.List.{get_or_append_left, nil_from_length, append-nil}
use Rattle.arrayvec.specs.ArrayVec.{ArrayVec}
use Rattle.iol_link.specs.Isdu.{IsIsduOf, Begins, IsRequestIn, IsShortestRequest, IsAnswer, IsIsdu}
use Rattle.iol_link.specs.Service.{address, address_count, FitsForm, shortest_form}
use Rattle.iol_link.proofs.Services.{code_of-fits, length-address}
use Rattle.iol_link.specs.declared.messages.Request.{Request}
use Rattle.iol_link.specs.declared.messages.Request.TheVariants as request
use Rattle.iol_link.specs.declared.messages.Answer.{Answer}
use Rattle.iol_link.specs.declared.messages.Answer.TheVariants.{ReadOk, ReadFault, WriteOk, WriteFault, Busy}
use Rattle.iol_link.specs.declared.service.Access.TheVariants.{Read, Write}
use Rattle.iol_link.specs.declared.service.IndexForm.{IndexForm}
use Rattle.iol_link.specs.declared.service.IndexForm.TheVariants.{Index8, Index8Subindex, Index16Subindex}
use Rattle.iol_link.specs.declared.service.Service.{Service}
use Rattle.iol_link.specs.declared.service.Service.TheVariants as service
use Rattle.iol_link.specs.declared.messages.TheConstants.{DATA_OCTETS}

-- an ISDU has two or three octets besides the carried ones
pub data HasLength (count carried : ℕ) : Type 0 where
  short : count ≡ carried + 2 → count ≤ 15 → HasLength count carried
  long : count ≡ carried + 3 → 17 ≤ count → HasLength count carried

isdu_length : (octets carried : List ℕ) (s : Service) → IsIsduOf octets s carried
    → HasLength (length octets) (length carried)
isdu_length octets carried s h = by_header h.header h.parts h.begins
  where
    by_header : (header : List ℕ) → octets ≡ header ++ carried ++ h.check ∷ []
        → Begins s (length octets) header → HasLength (length octets) (length carried)
    by_header [] parts b = elim b [ ]
    by_header (first ∷ []) parts b =
        short (omega (arith, ap length parts, length-append carried (h.check ∷ []))) b.2
    by_header (first ∷ extended ∷ []) parts b =
        long (omega (arith, ap length parts, length-append carried (h.check ∷ []))) b.2
    by_header (first ∷ extended ∷ more ∷ rest) parts b = elim b [ ]

-- an ISDU that carries more octets is longer
longer : (m x n y : ℕ) → HasLength m x → HasLength n y → x ≤ y → m ≤ n
longer m x n y (short a b) (short c d) le = omega arith
longer m x n y (short a b) (long c d) le = omega arith
longer m x n y (long a b) (short c d) le = omega arith
longer m x n y (long a b) (long c d) le = omega arith

fits_shortest : (index subindex : ℕ) → FitsForm (shortest_form index subindex) index subindex
fits_shortest index subindex = by_tests (nat_lt 255 index) (subindex == 0) refl refl
  where
    by_tests : (wide whole : Bool) → nat_lt 255 index ≡ wide → (subindex == 0) ≡ whole
        → FitsForm (cond wide Index16Subindex (cond whole Index8 Index8Subindex)) index subindex
    by_tests true whole is at = tt
    by_tests false true is at = (grind (arith, nat_tests, is), grind (arith, nat_tests, at))
    by_tests false false is at = grind (arith, nat_tests, is)

shortest_count : (form : IndexForm) (index subindex : ℕ) → FitsForm form index subindex
    → address_count (shortest_form index subindex) ≤ address_count form
shortest_count form index subindex can =
    by_tests (nat_lt 255 index) (subindex == 0) refl refl form can
  where
    by_tests : (wide whole : Bool) → nat_lt 255 index ≡ wide → (subindex == 0) ≡ whole
        → (form : IndexForm) → FitsForm form index subindex
        → address_count (cond wide Index16Subindex
        (cond whole Index8 Index8Subindex)) ≤ address_count form
    by_tests true whole is at Index8 can = absurd (grind (arith, nat_tests, is, can.0))
    by_tests true whole is at Index8Subindex can = absurd (grind (arith, nat_tests, is, can))
    by_tests true whole is at Index16Subindex can = omega arith
    by_tests false true is at Index8 can = omega arith
    by_tests false true is at Index8Subindex can = omega arith
    by_tests false true is at Index16Subindex can = omega arith
    by_tests false false is at Index8 can = absurd (grind (arith, nat_tests, at, can.1))
    by_tests false false is at Index8Subindex can = omega arith
    by_tests false false is at Index16Subindex can = omega arith

-- the ISDU in the shortest form is the shortest, if the same values follow each address
shortest_isdu : (octets others : List ℕ) (here there : Service) (form : IndexForm)
    (index subindex : ℕ) (values : List ℕ) → FitsForm form index subindex
    → IsIsduOf octets here (address (shortest_form index subindex) index subindex ++ values)
    → IsIsduOf others there (address form index subindex ++ values) → length octets ≤ length others
shortest_isdu octets others here there form index subindex values can h other =
    let shortest = shortest_form index subindex in
    longer _ _ _ _ (isdu_length octets _ _ h) (isdu_length others _ _ other)
    (omega (
      arith,
      length-append (address shortest index subindex) values,
      length-append (address form index subindex) values,
      length-address shortest index subindex,
      length-address form index subindex,
      shortest_count form index subindex can,
    ))

pub shortest_read : (octets : List ℕ) (index subindex : ℕ)
    → IsIsduOf octets (service.Request Read (shortest_form index subindex))
    (address (shortest_form index subindex) index subindex)
    → IsShortestRequest octets (request.Read index subindex)
shortest_read octets index subindex h =
    let whole = λ (o : List ℕ) (s : Service) (a : List ℕ). subst (IsIsduOf o s) (sym (append-nil a)) in
    let form = shortest_form index subindex in
    record {
      of_request = (form, (fits_shortest index subindex, h));
      shortest = λ others other.
          shortest_isdu octets others _ _ other.0 index subindex [] other.1.0
          (whole octets _ (address form index subindex) h)
          (whole others _ (address other.0 index subindex) other.1.1);
    }

pub shortest_write : (octets : List ℕ) (index subindex : ℕ) (values : ArrayVec ℕ)
    → length values.items ≤ DATA_OCTETS
    → IsIsduOf octets (service.Request Write (shortest_form index subindex))
    (address (shortest_form index subindex) index subindex ++ values.items)
    → IsShortestRequest octets (request.Write index subindex values)
shortest_write octets index subindex values fits h =
    let form = shortest_form index subindex in
    record {
      of_request = (form, (fits_shortest index subindex, h, fits));
      shortest = λ others other.
          shortest_isdu octets others _ _ other.0 index subindex values.items other.1.0 h other.1.1;
    }

-- the first octets state that there are `n` octets in all
data Counts (first : ℕ) (more : List ℕ) (n : ℕ) : Type 0 where
  alone : first < 16 → n ≡ 1 → Counts first more n
  plain : 16 ≤ first → first % 16 ≢ 1 → n ≡ first % 16 → Counts first more n
  extended : 16 ≤ first → first % 16 ≡ 1 → 0 < length more → n ≡ get_or more 0 0
      → Counts first more n

abbrev States : List ℕ → ℕ → Type 0
States [] n = ⊥
States (first ∷ more) n = Counts first more n

isdu_states : (octets carried : List ℕ) (s : Service) → IsIsduOf octets s carried
    → States octets (length octets)
isdu_states octets carried s h = by_header h.header h.parts h.begins
  where
    by_header : (header : List ℕ) → octets ≡ header ++ carried ++ h.check ∷ []
        → Begins s (length octets) header → States octets (length octets)
    by_header [] parts b = elim b [ ]
    by_header (first ∷ []) parts b =
        let few = code_of-fits s in
        subst (λ (o : List ℕ). Begins s (length o) (first ∷ []) → States o (length o)) (sym parts)
        (λ b. plain (omega (arith, b.0, few.0)) (λ one. omega (arith, one, b.0, b.1, b.2))
        (omega (arith, b.0, b.1, b.2))) b
    by_header (first ∷ ext ∷ []) parts b =
        let few = code_of-fits s in
        subst (λ (o : List ℕ). Begins s (length o) (first ∷ ext ∷ []) → States o (length o))
        (sym parts)
        (λ b. extended (omega (arith, b.0, few.0)) (omega (arith, b.0)) (omega arith)
        (sym b.1)) b
    by_header (first ∷ ext ∷ more ∷ rest) parts b = elim b [ ]

request_states : (octets : List ℕ) (form : IndexForm) (r : Request) → IsRequestIn form octets r
    → States octets (length octets)
request_states octets form (request.Read index subindex) h = isdu_states octets _ _ h.1
request_states octets form (request.Write index subindex values) h = isdu_states octets _ _ h.1

answer_states : (octets : List ℕ) (a : Answer) → IsAnswer octets a → States octets (length octets)
answer_states octets (ReadOk values) h = isdu_states octets _ _ h.0
answer_states octets (ReadFault error additional) h = isdu_states octets _ _ h
answer_states octets WriteOk h = isdu_states octets _ _ h
answer_states octets (WriteFault error additional) h = isdu_states octets _ _ h
answer_states octets Busy h = subst (λ o. States o (length o)) (sym h) (alone (omega arith) refl)

states_length : (octets : List ℕ) → IsIsdu octets → States octets (length octets)
states_length octets h = elim h [
  | inl r ↦ request_states octets r.1.0 r.0 r.1.1
  | inr more ↦ elim more [
    | inl a ↦ answer_states octets a.0 a.1
    | inr none ↦
        subst (λ o. States o (length o)) (sym none) (alone (omega arith) refl)
  ]
]

-- octets that follow do not change the stated number
states_one : (octets rest : List ℕ) (m n : ℕ) → States octets m → States (octets ++ rest) n → m ≡ n
states_one [] rest m n h k = elim h [ ]
states_one (first ∷ more) rest m n (alone a b) (alone c d) = omega arith
states_one (first ∷ more) rest m n (alone a b) (plain c d e) = absurd (omega arith)
states_one (first ∷ more) rest m n (alone a b) (extended c d e f) = absurd (omega arith)
states_one (first ∷ more) rest m n (plain a b c) (alone d e) = absurd (omega arith)
states_one (first ∷ more) rest m n (plain a b c) (plain d e f) = omega arith
states_one (first ∷ more) rest m n (plain a b c) (extended d e f g) = absurd (b e)
states_one (first ∷ more) rest m n (extended a b c d) (alone e f) = absurd (omega arith)
states_one (first ∷ more) rest m n (extended a b c d) (plain e f g) = absurd (f b)
states_one (first ∷ more) rest m n (extended a b c d) (extended e f g i) = d
    ∙ sym (i ∙ get_or_append_left more rest 0 0 c)

pub nothing_follows : (octets rest : List ℕ) → IsIsdu octets → IsIsdu (octets ++ rest) → rest ≡ []
nothing_follows octets rest h k =
    let same = states_one octets rest _ _ (states_length octets h) (states_length (octets ++ rest) k) in
    nil_from_length rest (omega (arith, length-append octets rest, same))
