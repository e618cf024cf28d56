-- What holds of each reader of a field or a record, and of readers made of several.
use Rattle.std.proofs.Common.{◌≡◌, ℕ, Bool, true, false, ◌+◌, ◌<◌, ◌≤◌, List, [], ◌++◌, length, get_or, take, drop, Option, Some, None}
use Rattle.std.proofs.Common.{Result, Ok, Err, inl, inr, refl, sym, ap, subst, ◌∙◌, append_assoc, arith}
use Rattle.std.specs.Option.{ok_or}
use Rattle.std.specs.Int.{Width, byte_len, from_be_bytes}
use Rattle.std.proofs.lemmas.Bool.{cases_lt, le-ltb, lt-ltb}
use Rattle.std.proofs.lemmas.List.{take_at, drop_at, take-append-drop, take-append-le, drop-append-le, length-append}
use Rattle.std.proofs.lemmas.List.{length-take, get_or-drop, get_or-take, get_or_past}
use Rattle.iol_record.specs.declared.fault.RecordFault.{RecordFault}
use Rattle.iol_record.specs.declared.fault.RecordFault.TheVariants.{Short, BadField}
use Rattle.iol_record.specs.Reading.{Reading, Field, ◌>>=◌, octets_at, next_number, field_at, both, followed, joined, if_so, tested}

-- each number is an octet
abbrev pub AreOctets : List ℕ → Type 0
AreOctets octets = (i : ℕ) → get_or octets i 0 < 256

AreOctets-drop : (n : ℕ) (octets : List ℕ) → AreOctets octets → AreOctets (drop n octets)
AreOctets-drop n octets h i = rw get_or-drop (h (n + i))

AreOctets-take : (n : ℕ) (octets : List ℕ) → AreOctets octets → AreOctets (take n octets)
AreOctets-take n octets h i =
    elim (cases_lt i n) [
      | inl lt ↦ rw (get_or-take n octets i 0 lt) (h i)
      | inr le ↦ rw (get_or_past (take n octets) i 0 (omega (arith, length-take n octets))) (omega arith)
    ]

-- a reading with more octets appended to those after its value
abbrev pub extended : {A : Type 0} → List ℕ → Result (A × List ℕ) RecordFault → Result (A × List ℕ) RecordFault
extended more (Ok x) = Ok (x.0, x.1 ++ more)
extended more (Err fault) = Err fault

-- some octets split into a front and the octets after it
pub record Splits (octets front rest : List ℕ) : Type 0 where
  pub parts : octets ≡ front ++ rest
  pub rest_octets : AreOctets rest

-- a reading that is not short is the same if more octets follow
abbrev pub Stays : {A : Type 0} → Reading A → Type 0
Stays reader = (octets more : List ℕ) → (reader octets ≡ Err Short → ⊥) → reader (octets ++ more) ≡ extended more (reader octets)

-- a reader of values in range, each of which has one spelling
pub record IsReader {A : Type 0} (reader : Reading A) (spelling : A → List ℕ) (InRange : A → Type 0) : Type 0 where
  -- the spelling of a value is read as the value, whatever follows
  pub again : (value : A) (rest : List ℕ) → InRange value → reader (spelling value ++ rest) ≡ Ok (value, rest)
  -- what is read is the spelling of the value
  pub takes : (octets : List ℕ) (value : A) (rest : List ℕ) → AreOctets octets → reader octets ≡ Ok (value, rest)
      → Splits octets (spelling value) rest × InRange value
  pub stays : Stays reader

-- ---- steps of a reading

abbrev pub done : {A : Type 0} → A → Result A RecordFault
done x = Ok x

pub ok_is : {A : Type 0} (x y : A) → done x ≡ done y → x ≡ y
ok_is x y e = cc

bind_ok : {A B : Type 0} (r : Result A RecordFault) (next : A → Result B RecordFault) (y : B) → (r >>= next) ≡ Ok y → (x : A) × (r ≡ Ok x)
    × (next x ≡ Ok y)
bind_ok (Ok x) next y e = (x, refl, e)
bind_ok (Err fault) next y e = absurd cc

bind_stays : {A B : Type 0} (more : List ℕ) (r : Result (A × List ℕ) RecordFault) (next : A × List ℕ → Result (B × List ℕ) RecordFault)
    → ((x : A × List ℕ) → r ≡ Ok x → next (x.0, x.1 ++ more) ≡ extended more (next x)) → (extended more r >>= next)
    ≡ extended more (r >>= next)
bind_stays more (Ok x) next h = h x refl
bind_stays more (Err fault) next h = refl

-- ---- fields

-- the numbers of a field stand for values in range, each with one spelling
pub record IsField {A : Type 0} (field : Field A) (spelling : A → List ℕ) (InRange : A → Type 0) : Type 0 where
  pub wide : (value : A) → length (spelling value) ≡ byte_len field.width
  pub again : (value : A) → InRange value → field.value (from_be_bytes field.width (spelling value)) ≡ Some value
  pub takes : (octets : List ℕ) (value : A) → length octets ≡ byte_len field.width → AreOctets octets
      → field.value (from_be_bytes field.width octets) ≡ Some value → (octets ≡ spelling value) × InRange value

-- the value of a number, and what follows
abbrev valued : {A : Type 0} → Option A → RecordFault → List ℕ → Result (A × List ℕ) RecordFault
valued o fault rest = ok_or o fault >>= λ value. Ok (value, rest)

valued_ok : {A : Type 0} (o : Option A) (fault : RecordFault) (rest : List ℕ) (x : A × List ℕ) → valued o fault rest ≡ Ok x → (o ≡ Some x.0)
    × (rest ≡ x.1)
valued_ok None fault rest x e = absurd cc
valued_ok (Some value) fault rest x e = let is = ok_is (value, rest) x e in (ap (λ y. Some y.0) is, ap (λ y. y.1) is)

valued_more : {A : Type 0} (o : Option A) (fault : RecordFault) (rest more : List ℕ) → valued o fault (rest ++ more)
    ≡ extended more (valued o fault rest)
valued_more None fault rest more = refl
valued_more (Some value) fault rest more = refl

number-whole : (width : Width) (octets : List ℕ) → byte_len width ≤ length octets → next_number width octets
    ≡ Ok (from_be_bytes width (take (byte_len width) octets), drop (byte_len width) octets)
number-whole width octets le = rw (le-ltb (length octets) (byte_len width) le) refl

number-short : (width : Width) (octets : List ℕ) → length octets < byte_len width → next_number width octets ≡ Err Short
number-short width octets lt = rw (lt-ltb (length octets) (byte_len width) lt) refl

field-whole : {A : Type 0} (field : Field A) (octets : List ℕ) → byte_len field.width ≤ length octets
    → field_at field octets
    ≡ valued (field.value (from_be_bytes field.width (take (byte_len field.width) octets))) field.fault
    (drop (byte_len field.width) octets)
field-whole field octets le = rw (number-whole field.width octets le) refl

field-short : {A : Type 0} (field : Field A) (octets : List ℕ) → length octets < byte_len field.width → field_at field octets ≡ Err Short
field-short field octets lt = rw (number-short field.width octets lt) refl

-- a field that is read is complete
field-ok : {A : Type 0} (field : Field A) (octets : List ℕ) (x : A × List ℕ) → field_at field octets ≡ Ok x
    → (byte_len field.width ≤ length octets) × (field.value (from_be_bytes field.width (take (byte_len field.width) octets)) ≡ Some x.0)
    × (drop (byte_len field.width) octets ≡ x.1)
field-ok field octets x e =
    elim (cases_lt (length octets) (byte_len field.width)) [
      | inl lt ↦ let short = field-short field octets lt in absurd cc
      | inr le ↦ let v = valued_ok _ _ _ x (sym (field-whole field octets le) ∙ e) in (le, v.0, v.1)
    ]

field-again : {A : Type 0} (field : Field A) (spelling : A → List ℕ) (InRange : A → Type 0) → IsField field spelling InRange
    → (value : A) (rest : List ℕ) → InRange value
    → field_at field (spelling value ++ rest) ≡ Ok (value, rest)
field-again field spelling InRange is value rest in_range =
    let k = byte_len field.width in
    let wide : length (spelling value) ≡ k = is.wide value in
    let long : k ≤ length (spelling value ++ rest) = omega (arith, length-append (spelling value) rest) in
    field-whole field (spelling value ++ rest) long
    ∙ rw (take_at (spelling value) rest k wide, drop_at (spelling value) rest k wide, is.again value in_range) refl

field-takes : {A : Type 0} (field : Field A) (spelling : A → List ℕ) (InRange : A → Type 0) → IsField field spelling InRange
    → (octets : List ℕ) (value : A) (rest : List ℕ)
    → AreOctets octets → field_at field octets ≡ Ok (value, rest) → Splits octets (spelling value) rest × InRange value
field-takes field spelling InRange is octets value rest are e =
    let k = byte_len field.width in
    let ok = field-ok field octets (value, rest) e in
    let len : length (take k octets) ≡ k = omega (arith, length-take k octets, ok.0) in
    let taken = is.takes (take k octets) value len (AreOctets-take k octets are) ok.1 in
    let parts : octets ≡ spelling value ++ rest = sym (take-append-drop k octets) ∙ ap (λ f. f ++ drop k octets) taken.0
    ∙ ap (λ r. spelling value ++ r) ok.2 in
    (record { parts = parts; rest_octets = subst AreOctets ok.2 (AreOctets-drop k octets are) }, taken.1)

field-stays : {A : Type 0} (field : Field A) (octets more : List ℕ) → (field_at field octets ≡ Err Short → ⊥)
    → field_at field (octets ++ more) ≡ extended more (field_at field octets)
field-stays field octets more not_short =
    elim (cases_lt (length octets) (byte_len field.width)) [
      | inl lt ↦ absurd (not_short (field-short field octets lt))
      | inr le ↦
          let k = byte_len field.width in
          let long : k ≤ length (octets ++ more) = omega (arith, length-append octets more, le) in
          let value = field.value (from_be_bytes field.width (take k octets)) in
          field-whole field (octets ++ more) long
          ∙ rw (take-append-le k octets more le, drop-append-le k octets more le) (valued_more value field.fault (drop k octets) more)
          ∙ sym (ap (extended more) (field-whole field octets le))
    ]

pub field_reads : {A : Type 0} (field : Field A) (spelling : A → List ℕ) (InRange : A → Type 0) → IsField field spelling InRange
    → IsReader (field_at field) spelling InRange
field_reads field spelling InRange is = record {
  again = field-again field spelling InRange is;
  takes = field-takes field spelling InRange is;
  stays = field-stays field;
}

-- ---- two readers, one after the other

both-again : {A B : Type 0} (first : Reading A) (second : Reading B) (a : A) (b : B) (s t rest : List ℕ)
    → first (s ++ (t ++ rest)) ≡ Ok (a, t ++ rest) → second (t ++ rest) ≡ Ok (b, rest) → both first second ((s ++ t) ++ rest)
    ≡ Ok ((a, b), rest)
both-again first second a b s t rest e f = rw (append_assoc s t rest, e, f) refl

-- what the two readers read, each by itself
both-ok : {A B : Type 0} (first : Reading A) (second : Reading B) (octets : List ℕ) (x : (A × B) × List ℕ) → both first second octets ≡ Ok x
    → (middle : List ℕ) × (first octets ≡ Ok (x.0.0, middle)) × (second middle ≡ Ok (x.0.1, x.1))
both-ok first second octets x e =
    let a = bind_ok (first octets) (λ a. second a.1 >>= λ b. Ok ((a.0, b.0), b.1)) x e in
    let b = bind_ok (second a.0.1) (λ b. Ok ((a.0.0, b.0), b.1)) x a.2 in
    let is = ok_is ((a.0.0, b.0.0), b.0.1) x b.2 in
    (a.0.1, a.1 ∙ ap (λ y. Ok (y.0.0, a.0.1)) is, b.1 ∙ ap (λ y. Ok (y.0.1, y.1)) is)

both-stays : {A B : Type 0} (first : Reading A) (second : Reading B) (octets more : List ℕ) → (both first second octets ≡ Err Short → ⊥)
    → ((first octets ≡ Err Short → ⊥) → first (octets ++ more) ≡ extended more (first octets))
    → ((rest : List ℕ) → (second rest ≡ Err Short → ⊥) → second (rest ++ more) ≡ extended more (second rest))
    → both first second (octets ++ more) ≡ extended more (both first second octets)
both-stays {A} {B} first second octets more not_short one two =
    let next : A × List ℕ → Result ((A × B) × List ℕ) RecordFault = λ a. second a.1 >>= λ b. Ok ((a.0, b.0), b.1) in
    let goes_on : (x : A × List ℕ) → first octets ≡ Ok x → next (x.0, x.1 ++ more) ≡ extended more (next x) = λ x e.
    ap (λ r. r >>= λ b. Ok ((x.0, b.0), b.1)) (two x.1 (λ f. not_short (rw (e, f) refl)))
    ∙ bind_stays more (second x.1) (λ b. Ok ((x.0, b.0), b.1)) (λ y f. refl)
    in
    ap (λ r. r >>= next) (one (λ e. not_short (rw e refl))) ∙ bind_stays more (first octets) next goes_on

pub both_reads : {A B : Type 0} (first : Reading A) (second : Reading B) (s : A → List ℕ) (t : B → List ℕ) (P : A → Type 0) (Q : B → Type 0)
    → IsReader first s P → IsReader second t Q → IsReader (both first second) (λ x. s x.0 ++ t x.1) (λ x. P x.0 × Q x.1)
both_reads first second s t P Q one two = record {
  again = λ x rest in_range.
      both-again first second x.0 x.1 (s x.0) (t x.1) rest (one.again x.0 (t x.1 ++ rest) in_range.0) (two.again x.1 rest in_range.1);
  takes = λ octets x rest are e.
      let ok = both-ok first second octets (x, rest) e in
      let p = one.takes octets x.0 ok.0 are ok.1 in
      let q = two.takes ok.0 x.1 rest p.0.rest_octets ok.2 in (
        record {
          parts = p.0.parts ∙ ap (λ r. s x.0 ++ r) q.0.parts ∙ sym (append_assoc (s x.0) (t x.1) rest);
          rest_octets = q.0.rest_octets;
        },
        (p.1, q.1),
      );
  stays = λ octets more not_short. both-stays first second octets more not_short (one.stays octets more) (λ rest. two.stays rest more);
}

-- ---- the range of a value, in other words

pub in_other_words : {A : Type 0} {reader : Reading A} {spelling : A → List ℕ} {P Q : A → Type 0} → ((a : A) → Q a → P a)
    → ((a : A) → P a → Q a)
    → IsReader reader spelling P → IsReader reader spelling Q
in_other_words forth back reads = record {
  again = λ a rest is. reads.again a rest (forth a is);
  takes = λ octets a rest are e. let taken = reads.takes octets a rest are e in (taken.0, back a taken.1);
  stays = reads.stays;
}

-- ---- the parts of a value, joined

-- values are made of parts in range, and are spelled as these
pub record AreParts {A B : Type 0} (whole : A → B) (s : A → List ℕ) (t : B → List ℕ) (P : A → Type 0) (Q : B → Type 0) : Type 0 where
  pub made : (b : B) → Q b → (a : A) × (whole a ≡ b) × P a
  pub spelled : (a : A) → t (whole a) ≡ s a
  pub in_range : (a : A) → P a → Q (whole a)

joined-ok : {A B : Type 0} (whole : A → B) (reader : Reading A) (octets : List ℕ) (b : B) (rest : List ℕ) → joined whole reader octets
    ≡ Ok (b, rest)
    → (a : A) × (reader octets ≡ Ok (a, rest)) × (whole a ≡ b)
joined-ok whole reader octets b rest e =
    let x = bind_ok (reader octets) (λ a. Ok (whole a.0, a.1)) (b, rest) e in
    let is = ok_is (whole x.0.0, x.0.1) (b, rest) x.2 in
    (x.0.0, x.1 ∙ ap (λ y. Ok (x.0.0, y.1)) is, ap (λ y. y.0) is)

pub joined_reads : {A B : Type 0} (whole : A → B) (reader : Reading A) (s : A → List ℕ) (t : B → List ℕ) (P : A → Type 0) (Q : B → Type 0)
    → AreParts whole s t P Q → IsReader reader s P → IsReader (joined whole reader) t Q
joined_reads whole reader s t P Q are reads = record {
  again = λ b rest in_range.
      let made = are.made b in_range in
      ap (joined whole reader) (ap (λ front. front ++ rest) (ap t (sym made.1) ∙ are.spelled made.0))
      ∙ rw (reads.again made.0 rest made.2) (ap (λ x. Ok (x, rest)) made.1);
  takes = λ octets b rest octets_are e.
      let ok = joined-ok whole reader octets b rest e in
      let taken = reads.takes octets ok.0 rest octets_are ok.1 in
      (subst (λ front. Splits octets front rest) (sym (are.spelled ok.0) ∙ ap t ok.2) taken.0, subst Q ok.2 (are.in_range ok.0 taken.1));
  stays = λ octets more not_short.
      ap (λ r. r >>= λ a. Ok (whole a.0, a.1)) (reads.stays octets more (λ e. not_short (rw e refl)))
      ∙ bind_stays more (reader octets) (λ a. Ok (whole a.0, a.1)) (λ x e. refl);
}

-- ---- a value, and one after it that depends on the first

-- a value begins with a part, and the rest of it depends on that part
pub record HasFirst {A B : Type 0} (s : A → List ℕ) (t u : B → List ℕ) (P : A → Type 0) (Q : A → B → Type 0) (R : B → Type 0) : Type 0 where
  pub first : (b : B) → R b → (a : A) × P a × Q a b
  pub spelled : (a : A) (b : B) → Q a b → u b ≡ s a ++ t b
  pub in_range : (a : A) (b : B) → P a → Q a b → R b

followed-ok : {A B : Type 0} (first : Reading A) (second : A → Reading B) (octets : List ℕ) (x : B × List ℕ) → followed first second octets
    ≡ Ok x
    → (a : A × List ℕ) × (first octets ≡ Ok a) × (second a.0 a.1 ≡ Ok x)
followed-ok first second octets x e = bind_ok (first octets) (λ a. second a.0 a.1) x e

pub followed_reads : {A B : Type 0} (first : Reading A) (second : A → Reading B) (s : A → List ℕ) (t u : B → List ℕ)
    (P : A → Type 0) (Q : A → B → Type 0) (R : B → Type 0) → HasFirst s t u P Q R
    → IsReader first s P → ((a : A) → IsReader (second a) t (Q a)) → IsReader (followed first second) u R
followed_reads {A} {B} first second s t u P Q R has one two = record {
  again = λ b rest in_range.
      let a = has.first b in_range in
      ap (λ front. followed first second (front ++ rest)) (has.spelled a.0 b a.2)
      ∙ ap (followed first second) (append_assoc (s a.0) (t b) rest)
      ∙ rw (one.again a.0 (t b ++ rest) a.1) ((two a.0).again b rest a.2);
  takes = λ octets b rest are e.
      let ok = followed-ok first second octets (b, rest) e in
      let p = one.takes octets ok.0.0 ok.0.1 are ok.1 in
      let q = (two ok.0.0).takes ok.0.1 b rest p.0.rest_octets ok.2 in
      let parts : octets ≡ u b ++ rest =
      p.0.parts ∙ ap (λ r. s ok.0.0 ++ r) q.0.parts ∙ sym (append_assoc (s ok.0.0) (t b) rest)
      ∙ ap (λ front. front ++ rest) (sym (has.spelled ok.0.0 b q.1)) in
      (record { parts = parts; rest_octets = q.0.rest_octets }, has.in_range ok.0.0 b p.1 q.1);
  stays = λ octets more not_short.
      let next : A × List ℕ → Result (B × List ℕ) RecordFault = λ a. second a.0 a.1 in
      ap (λ r. r >>= next) (one.stays octets more (λ e. not_short (rw e refl)))
      ∙ bind_stays more (first octets) next (λ x e. (two x.0).stays x.1 more (λ f. not_short (rw (e, f) refl)));
}

-- ---- nothing, a number of octets, and a test at the end

-- a value that is spelled by no octets
pub nothing_reads : {A : Type 0} (value : A) → IsReader (λ octets. Ok (value, octets)) (λ _. []) (λ a. a ≡ value)
nothing_reads value = record {
  again = λ a rest is. ap (λ x. Ok (x, rest)) (sym is);
  takes = λ octets a rest are e.
      let is = ok_is (value, octets) (a, rest) e in
      (record { parts = ap (λ x. x.1) is; rest_octets = subst AreOctets (ap (λ x. x.1) is) are }, ap (λ x. x.0) (sym is));
  stays = λ octets more _. refl;
}

octets-whole : (count : ℕ) (octets : List ℕ) → count ≤ length octets → octets_at count octets ≡ Ok (take count octets, drop count octets)
octets-whole count octets le = rw (le-ltb (length octets) count le) refl

octets-short : (count : ℕ) (octets : List ℕ) → length octets < count → octets_at count octets ≡ Err Short
octets-short count octets lt = rw (lt-ltb (length octets) count lt) refl

pub octets_reads : (count : ℕ) → IsReader (octets_at count) (λ octets. octets) (λ octets. length octets ≡ count)
octets_reads count = record {
  again = λ front rest is.
      octets-whole count (front ++ rest) (omega (arith, is, length-append front rest))
      ∙ rw (take_at front rest count is, drop_at front rest count is) refl;
  takes = λ octets front rest are e.
      elim (cases_lt (length octets) count) [
        | inl lt ↦ let short = octets-short count octets lt in absurd cc
        | inr le ↦
            let is = ok_is (take count octets, drop count octets) (front, rest) (sym (octets-whole count octets le) ∙ e) in
            let rest_is : drop count octets ≡ rest = ap (λ x. x.1) is in
            let front_is : take count octets ≡ front = ap (λ x. x.0) is in (
              record {
                parts = sym (take-append-drop count octets) ∙ ap (λ f. f ++ drop count octets) front_is ∙ ap (λ r. front ++ r) rest_is;
                rest_octets = subst AreOctets rest_is (AreOctets-drop count octets are);
              },
              ap length (sym front_is) ∙ omega (arith, length-take count octets, le),
            )
      ];
  stays = λ octets more not_short.
      elim (cases_lt (length octets) count) [
        | inl lt ↦ absurd (not_short (octets-short count octets lt))
        | inr le ↦
            octets-whole count (octets ++ more) (omega (arith, length-append octets more, le))
            ∙ rw (take-append-le count octets more le, drop-append-le count octets more le) refl
            ∙ sym (ap (extended more) (octets-whole count octets le))
      ];
}

-- a tested value that is read has passed the test
passed : {A : Type 0} (b : Bool) (x y : A × List ℕ) → ok_or (if_so b x) BadField ≡ Ok y → (b ≡ true) × (x ≡ y)
passed true x y e = (refl, ok_is x y e)
passed false x y e = absurd cc

passed_more : {A : Type 0} (b : Bool) (x : A × List ℕ) (more : List ℕ) → ok_or (if_so b (x.0, x.1 ++ more)) BadField
    ≡ extended more (ok_or (if_so b x) BadField)
passed_more true x more = refl
passed_more false x more = refl

pub tested_reads : {A : Type 0} (test : A → Bool) (reader : Reading A) (s : A → List ℕ) (P : A → Type 0)
    → IsReader reader s P → IsReader (tested test reader) s (λ a. P a × (test a ≡ true))
tested_reads test reader s P reads = record {
  again = λ a rest in_range. rw (reads.again a rest in_range.0, in_range.1) refl;
  takes = λ octets a rest are e.
      let x = bind_ok (reader octets) (λ x. ok_or (if_so (test x.0) x) BadField) (a, rest) e in
      let is = passed (test x.0.0) x.0 (a, rest) x.2 in
      let taken = reads.takes octets a rest are (x.1 ∙ ap (λ y. Ok y) is.1) in
      (taken.0, (taken.1, ap (λ y. test y.0) (sym is.1) ∙ is.0));
  stays = λ octets more not_short.
      ap (λ r. r >>= λ x. ok_or (if_so (test x.0) x) BadField) (reads.stays octets more (λ e. not_short (rw e refl)))
      ∙ bind_stays more (reader octets) (λ x. ok_or (if_so (test x.0) x) BadField) (λ x e. passed_more (test x.0) x more);
}
