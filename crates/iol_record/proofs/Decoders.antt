-- What a reader returns for octets with a spelling at their front.
use Rattle.std.proofs.Common.{◌≡◌, ℕ, ◌+◌, ◌-◌, ◌≤◌, List, [], ◌++◌, length, take, drop, Ok, Err, refl, sym, ap, ◌∙◌, arith}
use Rattle.std.proofs.lemmas.List.{append-nil, take_at, drop_at, length-append}
use Rattle.iol_record.specs.declared.fault.RecordFault.{RecordFault}
use Rattle.iol_record.specs.Reading.{Reading}
use Rattle.iol_record.proofs.Readers.{AreOctets, IsReader, ok_is, done}

-- the value that is read if a spelling is at the front
pub only_front : {A : Type 0} {reader : Reading A} {spelling : A → List ℕ} {InRange : A → Type 0} → IsReader reader spelling InRange
    → (octets front : List ℕ) (value : A) (rest : List ℕ) → front ≡ spelling value → InRange value → octets ≡ front ++ rest → reader octets
    ≡ Ok (value, rest)
only_front {A} {reader} reads octets front value rest spelled in_range whole =
    ap reader (whole ∙ ap (λ f. f ++ rest) spelled) ∙ reads.again value rest in_range

-- a value is read from `count` octets, which are its spelling, and no other value is at the front
pub record Decodes {A : Type 0} (reader : Reading A) (spelling : A → List ℕ) (InRange : A → Type 0) (octets : List ℕ) (value : A)
    (count : ℕ) : Type 0 where
  pub within : count ≤ length octets
  pub front : take count octets ≡ spelling value
  pub in_range : InRange value
  pub only : (front rest : List ℕ) (other : A) → front ≡ spelling other → InRange other → octets ≡ front ++ rest → (value ≡ other)
      × (count ≡ length front)
  pub exact : reader octets ≡ Ok (value, drop count octets)

same_front : {A : Type 0} (reader : Reading A) (octets front : List ℕ) (value other : A) (rest behind : List ℕ)
    → reader octets ≡ Ok (other, behind) → reader octets ≡ Ok (value, rest) → octets ≡ front ++ behind → (value ≡ other)
    × (length octets - length rest ≡ length front)
same_front reader octets front value other rest behind e f whole =
    let is = ok_is (value, rest) (other, behind) (sym f ∙ e) in
    let same : length rest ≡ length behind = ap (λ x. length x.1) is in
    let long : length octets ≡ length front + length behind = ap length whole ∙ length-append front behind in
    (ap (λ x. x.0) is, omega (arith, same, long))

pub decodes : {A : Type 0} {reader : Reading A} {spelling : A → List ℕ} {InRange : A → Type 0} → IsReader reader spelling InRange
    → (octets : List ℕ) (value : A) (rest : List ℕ) (count : ℕ) → AreOctets octets → reader octets ≡ Ok (value, rest)
    → length octets - length rest ≡ count
    → Decodes reader spelling InRange octets value count
decodes {A} {reader} {spelling} reads octets value rest count are e is =
    let taken = reads.takes octets value rest are e in
    let parts : octets ≡ spelling value ++ rest = taken.0.parts in
    let long : length octets ≡ length (spelling value) + length rest = ap length parts ∙ length-append (spelling value) rest in
    let len : length (spelling value) ≡ count = omega (arith, long, is) in
    let behind : rest ≡ drop count octets = sym (ap (drop count) parts ∙ drop_at (spelling value) rest count len) in
    record {
      within = omega (arith, is);
      front = ap (take count) parts ∙ take_at (spelling value) rest count len;
      in_range = taken.1;
      only = λ front more other spelled in_range whole.
          let same = same_front reader octets front value other rest more (only_front reads octets front other more spelled in_range whole)
          e whole in
          (same.0, sym is ∙ same.1);
      exact = e ∙ ap (λ r. Ok (value, r)) behind;
    }

-- a value is not read if there is a fault
pub no_fault_at : {A : Type 0} (reader : Reading A) (octets : List ℕ) (value : A) (rest : List ℕ) (fault : RecordFault) → reader octets
    ≡ Ok (value, rest) → reader octets ≡ Err fault → ⊥
no_fault_at {A} reader octets value rest fault e f = let is : done {A = A × List ℕ} (value, rest) ≡ Err fault = sym e ∙ f in cc

-- no spelling is a prefix of another
pub begins_none : {A : Type 0} {reader : Reading A} {spelling : A → List ℕ} {InRange : A → Type 0} → IsReader reader spelling InRange
    → (front rest : List ℕ) (one two : A) → front ≡ spelling one → InRange one → front ++ rest ≡ spelling two → InRange two → (one ≡ two)
    × (rest ≡ [])
begins_none {A} {reader} reads front rest one two is_one one_in_range is_two two_in_range =
    let first = only_front reads (front ++ rest) front one rest is_one one_in_range refl in
    let second = only_front reads (front ++ rest) (front ++ rest) two [] is_two two_in_range (sym (append-nil (front ++ rest))) in
    let same = ok_is (one, rest) (two, []) (sym first ∙ second) in
    (ap (λ x. x.0) same, ap (λ x. x.1) same)
