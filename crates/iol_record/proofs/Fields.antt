-- Each field is read back from its octets.
use Rattle.std.proofs.Common.{◌≡◌, ℕ, ◌+◌, ◌^◌, ◌<◌, ◌≤◌, get_or, is_some, subst, List, [], ◌∷◌, length, Bool, true, false, cond, leb, eqb}
use Rattle.std.proofs.Common.{Option, Some, None, ◌⊎◌, inl, inr, refl, sym, ap, ◌∙◌, ◌-◌, arith}
use Rattle.std.specs.Prelude.{find, ◌&&◌}
use Rattle.std.specs.Int.{w8, w16, w32, w64, from_be_bytes, to_be_bytes}
use Rattle.std.proofs.lemmas.Bool.{leb-true, le-leb, eqb-true, and_parts}
use Rattle.std.proofs.lemmas.Nat.{be_bytes_2, be_bytes_4, be_bytes_8, from_be_bytes-to_be_bytes_2, from_be_bytes-to_be_bytes_4}
use Rattle.std.proofs.lemmas.Nat.{from_be_bytes-to_be_bytes_8}
use Rattle.iol_types.specs.declared.config.PortMode.{PortMode}
use Rattle.iol_types.specs.declared.config.PortMode.TheVariants.{Deactivated, IolManual, IolAutostart, DigitalInput, DigitalOutput}
use Rattle.iol_types.specs.declared.config.Validation.{Validation}
use Rattle.iol_types.specs.declared.config.Validation.TheVariants.{NoCheck, TypeCompatibleV10, TypeCompatibleV11, BackupAndRestore, Restore}
use Rattle.iol_types.specs.declared.label.TheConstants.{MOST_LABEL_OCTETS}
use Rattle.iol_types.specs.declared.port_id.TheConstants.{PORTS}
use Rattle.iol_types.specs.declared.device_id.TheConstants.{DEVICE_NUMBERS}
use Rattle.iol_types.specs.declared.port_state.TheConstants.{LAST_REVISION}
use Rattle.iol_types.specs.Numbers.{IsPortNumber, IsDeviceNumber}
use Rattle.iol_types.specs.Config.{mode_octet, mode_of, validation_octet, validation_of}
use Rattle.iol_record.specs.declared.fault.RecordFault.{RecordFault}
use Rattle.iol_record.specs.declared.fault.RecordFault.TheVariants.{BadTag, BadField}
use Rattle.iol_record.specs.declared.reader.TheConstants.{NO_SET, SET}
use Rattle.iol_types.specs.declared.key.Key.{Key}
use Rattle.iol_types.specs.declared.data_set.TheConstants.{MOST_ENTRY_OCTETS, ENTRY_HEAD_OCTETS, MOST_SET_OCTETS}
use Rattle.iol_types.specs.Key.{is_reserved}
use Rattle.iol_types.specs.DataSet.{Entry, data_at, octets_of}
use Rattle.iol_record.specs.declared.reader.Tag.{Tag}
use Rattle.iol_record.specs.declared.version.Version.{Version}
use Rattle.iol_record.specs.Reading.{from_to, tag_octet, tags, tag_of, has_set, new_key, tag_field, port_field, mode_field}
use Rattle.iol_record.specs.Reading.{validation_field, label_length_field}
use Rattle.iol_record.specs.Reading.{vendor_field, device_field, revision_field, checksum_field, count_field, flag_field, index_field}
use Rattle.iol_record.specs.Reading.{subindex_field, length_field}
use Rattle.iol_record.proofs.Readers.{AreOctets, IsField}

-- ---- the values of numbers

chosen : {A : Type 0} (b : Bool) (x y : A) (other : Option A) → cond b (Some x) other ≡ Some y → ((b ≡ true) × (x ≡ y)) ⊎ (other ≡ Some y)
chosen true x y other e = inl (refl, cc)
chosen false x y other e = inr e

-- a value that a search finds passes its test
find-passes : {A : Type 0} (test : A → Bool) (xs : List A) (x : A) → find test xs ≡ Some x → test x ≡ true
find-passes test [] x e = absurd cc
find-passes test (y ∷ ys) x e =
    elim (chosen (test y) y x (find test ys) e) [ inl here ↦ ap test (sym here.1) ∙ here.0 | inr later ↦ find-passes test ys x later ]

mode_of-octet : (mode : PortMode) → mode_of (mode_octet mode) ≡ Some mode
mode_of-octet Deactivated = refl
mode_of-octet IolManual = refl
mode_of-octet IolAutostart = refl
mode_of-octet DigitalInput = refl
mode_of-octet DigitalOutput = refl

validation_of-octet : (validation : Validation) → validation_of (validation_octet validation) ≡ Some validation
validation_of-octet NoCheck = refl
validation_of-octet TypeCompatibleV10 = refl
validation_of-octet TypeCompatibleV11 = refl
validation_of-octet BackupAndRestore = refl
validation_of-octet Restore = refl

mode_octet-of : (n : ℕ) (mode : PortMode) → mode_of n ≡ Some mode → n ≡ mode_octet mode
mode_octet-of n mode e =
    sym (eqb-true _ _ (find-passes (λ m. eqb (mode_octet m) n) (Deactivated ∷ IolManual ∷ IolAutostart ∷ DigitalInput ∷ DigitalOutput ∷ [])
    mode e))

validation_octet-of : (n : ℕ) (validation : Validation) → validation_of n ≡ Some validation → n ≡ validation_octet validation
validation_octet-of n validation e =
    sym (eqb-true _ _ (find-passes (λ v. eqb (validation_octet v) n) (NoCheck ∷ TypeCompatibleV10 ∷ TypeCompatibleV11 ∷ BackupAndRestore
    ∷ Restore ∷ []) validation e))

from_to-some : (least most n : ℕ) → least ≤ n → n ≤ most → from_to least most n ≡ Some n
from_to-some least most n low high = rw (le-leb least n low, le-leb n most high) refl

some_if : (b : Bool) (n m : ℕ) → cond b (Some n) None ≡ Some m → (b ≡ true) × (n ≡ m)
some_if true n m e = (refl, cc)
some_if false n m e = absurd cc

from_to-is : (least most n m : ℕ) → from_to least most n ≡ Some m → (n ≡ m) × (least ≤ n) × (n ≤ most)
from_to-is least most n m e =
    let is = some_if (leb least n && leb n most) n m e in
    let tests = and_parts (leb least n) (leb n most) is.0 in
    (is.1, leb-true least n tests.0, leb-true n most tests.1)

-- ---- fields of one octet

one_octet : (octets : List ℕ) → length octets ≡ 1 → (n : ℕ) × (octets ≡ n ∷ [])
one_octet [] e = absurd (omega (arith, e))
one_octet (n ∷ []) e = (n, refl)
one_octet (n ∷ m ∷ more) e = absurd (omega (arith, e))

octet_field : {A : Type 0} (value : ℕ → Option A) (fault : RecordFault) (code : A → ℕ) (InRange : A → Type 0)
    → ((a : A) → InRange a → value (code a) ≡ Some a) → ((n : ℕ) (a : A) → value n ≡ Some a → (n ≡ code a) × InRange a)
    → IsField (record { width = w8; value = value; fault = fault }) (λ a. code a ∷ []) InRange
octet_field value fault code InRange again found = record {
  wide = λ a. refl;
  again = again;
  takes = λ octets a len are e.
      let one = one_octet octets len in
      let value-is : value one.0 ≡ Some a = ap (λ os. value (from_be_bytes w8 os)) (sym one.1) ∙ e in
      let is = found one.0 a value-is in
      (one.1 ∙ ap (λ n. n ∷ []) is.0, is.1);
}

from_to_field : (fault : RecordFault) (least most : ℕ)
    → IsField (record { width = w8; value = from_to least most; fault = fault }) (λ n. n ∷ []) (λ n. (least ≤ n) × (n ≤ most))
from_to_field fault least most =
    octet_field (from_to least most) fault (λ n. n) (λ n. (least ≤ n) × (n ≤ most))
    (λ n in_range. from_to-some least most n in_range.0 in_range.1)
    (λ n m e. let is = from_to-is least most n m e in (is.0, (omega (arith, is.0, is.1), omega (arith, is.0, is.2))))

-- a tag that a version has
abbrev pub HasTag : Version → Tag → Type 0
HasTag version t = tag_of version (tag_octet t) ≡ Some t

tag_octet-of : (version : Version) (n : ℕ) (t : Tag) → tag_of version n ≡ Some t → n ≡ tag_octet t
tag_octet-of version n t e = sym (eqb-true _ _ (find-passes (λ other. eqb (tag_octet other) n) (tags version) t e))

pub tag_reads : (version : Version) → IsField (tag_field version) (λ t. tag_octet t ∷ []) (HasTag version)
tag_reads version =
    octet_field (tag_of version) BadTag tag_octet (HasTag version) (λ t has. has)
    (λ n t e. let is = tag_octet-of version n t e in (is, ap (tag_of version) (sym is) ∙ e))

pub port_reads : IsField port_field (λ n. n ∷ []) IsPortNumber
port_reads = from_to_field BadField 1 PORTS

-- the octet of a flag
abbrev pub flag_octet : Bool → ℕ
flag_octet false = NO_SET
flag_octet true = SET

has_set-octet : (flag : Bool) → has_set (flag_octet flag) ≡ Some flag
has_set-octet false = refl
has_set-octet true = refl

flag_octet-of : (n : ℕ) (flag : Bool) → has_set n ≡ Some flag → n ≡ flag_octet flag
flag_octet-of n flag e = by (eqb n NO_SET) (eqb n SET) refl refl e
  where
    by : (none set : Bool) → eqb n NO_SET ≡ none → eqb n SET ≡ set → cond none (Some false) (cond set (Some true) None) ≡ Some flag → n
        ≡ flag_octet flag
    by true set is_none is_set e = let same : false ≡ flag = cc in eqb-true n NO_SET is_none ∙ ap flag_octet same
    by false true is_none is_set e = let same : true ≡ flag = cc in eqb-true n SET is_set ∙ ap flag_octet same
    by false false is_none is_set e = absurd cc

pub flag_reads : IsField flag_field (λ flag. flag_octet flag ∷ []) (λ _. Unit {0})
flag_reads = octet_field has_set BadField flag_octet (λ _. Unit {0}) (λ flag _. has_set-octet flag) (λ n flag e.
    (flag_octet-of n flag e, tt))

pub mode_reads : IsField mode_field (λ mode. mode_octet mode ∷ []) (λ _. Unit {0})
mode_reads = octet_field mode_of BadField mode_octet (λ _. Unit {0}) (λ mode _. mode_of-octet mode) (λ n mode e.
    (mode_octet-of n mode e, tt))

pub validation_reads : IsField validation_field (λ validation. validation_octet validation ∷ []) (λ _. Unit {0})
validation_reads =
    octet_field validation_of BadField validation_octet (λ _. Unit {0}) (λ validation _. validation_of-octet validation) (λ n validation e.
    (validation_octet-of n validation e, tt))

-- ---- fields of several octets

abbrev some_number : ℕ → Option ℕ
some_number n = Some n

some_is : (n m : ℕ) → some_number n ≡ Some m → n ≡ m
some_is n m e = cc

-- a number of two octets stands for itself
two_octets : (fault : RecordFault) → IsField (record { width = w16; value = Some; fault = fault }) (to_be_bytes w16) (λ n. n < 2 ^ 16)
two_octets fault = record {
  wide = λ n. refl;
  again = λ n lt. ap some_number (from_be_bytes-to_be_bytes_2 n lt);
  takes = λ octets n len are e.
      let is : n ≡ from_be_bytes w16 octets = sym (some_is _ n e) in
      (sym (be_bytes_2 octets n len are is), omega (arith, is, are 0, are 1));
}

pub vendor_reads : IsField vendor_field (to_be_bytes w16) (λ n. n < 2 ^ 16)
vendor_reads = two_octets BadField

pub count_reads : IsField count_field (to_be_bytes w16) (λ n. n < 2 ^ 16)
count_reads = two_octets BadField

pub checksum_reads : IsField checksum_field (to_be_bytes w32) (λ n. n < 2 ^ 32)
checksum_reads = record {
  wide = λ n. refl;
  again = λ n lt. ap some_number (from_be_bytes-to_be_bytes_4 n lt);
  takes = λ octets n len are e.
      let is : n ≡ from_be_bytes w32 octets = sym (some_is _ n e) in
      (sym (be_bytes_4 octets n len are is), omega (arith, is, are 0, are 1, are 2, are 3));
}

pub device_reads : IsField device_field (to_be_bytes w32) IsDeviceNumber
device_reads = record {
  wide = λ n. refl;
  again = λ n lt. ap (from_to 0 (DEVICE_NUMBERS - 1)) (from_be_bytes-to_be_bytes_4 n (omega (arith, lt)))
      ∙ from_to-some 0 (DEVICE_NUMBERS - 1) n (omega arith) (omega (arith, lt));
  takes = λ octets n len are e.
      let found = from_to-is 0 (DEVICE_NUMBERS - 1) (from_be_bytes w32 octets) n e in
      (sym (be_bytes_4 octets n len are (sym found.0)), omega (arith, found.0, found.2));
}

pub label_length_reads : IsField label_length_field (λ n. n ∷ []) (λ n. (0 ≤ n) × (n ≤ MOST_LABEL_OCTETS))
label_length_reads = from_to_field BadField 0 MOST_LABEL_OCTETS

pub revision_reads : IsField revision_field (to_be_bytes w64) (λ n. n ≤ LAST_REVISION)
revision_reads = record {
  wide = λ n. refl;
  again = λ n le. ap some_number (from_be_bytes-to_be_bytes_8 n (omega (arith, le)));
  takes = λ octets n len are e.
      let is : n ≡ from_be_bytes w64 octets = sym (some_is _ n e) in
      (sym (be_bytes_8 octets n len are is), omega (arith, is, are 0, are 1, are 2, are 3, are 4, are 5, are 6, are 7));
}

-- ---- the fields of an entry

-- the number of an Index that is not reserved
pub record IsFreeIndex (index : ℕ) : Type 0 where
  pub below : index < 2 ^ 16
  pub free : is_reserved (record { index = index; subindex = 0 }) ≡ false

unless : {A : Type 0} (b : Bool) (x y : A) → cond b None (Some x) ≡ Some y → (b ≡ false) × (x ≡ y)
unless true x y e = absurd cc
unless false x y e = (refl, cc)

pub index_reads : IsField index_field (to_be_bytes w16) IsFreeIndex
index_reads = record {
  wide = λ n. refl;
  again = λ n is. ap index_field.value (from_be_bytes-to_be_bytes_2 n is.below) ∙ rw is.free refl;
  takes = λ octets n len are e.
      let found = unless (is_reserved (record { index = from_be_bytes w16 octets; subindex = 0 })) (from_be_bytes w16 octets) n e in (
        sym (be_bytes_2 octets n len are (sym found.1)),
        record {
          below = omega (arith, found.1, are 0, are 1);
          free = ap (λ i. is_reserved (record { index = i; subindex = 0 })) (sym found.1) ∙ found.0;
        },
      );
}

-- a key with this Index that none of the others has
pub record IsNewKey (others : List Entry) (index : ℕ) (key : Key) : Type 0 where
  pub has_index : key.index ≡ index
  pub subindex : key.subindex < 2 ^ 8
  pub absent : is_some (data_at others key) ≡ false

pub subindex_reads : (others : List Entry) (index : ℕ)
    → IsField (subindex_field others index) (λ key. key.subindex ∷ []) (IsNewKey others index)
subindex_reads others index = record {
  wide = λ key. refl;
  again = λ key is. ap (λ i. new_key others i key.subindex) (sym is.has_index) ∙ rw is.absent refl;
  takes = λ octets key len are e.
      let one = one_octet octets len in
      let here : one.0 < 256 = ap-octet one.0 octets one.1 are in
      let named = named-octet one.0 octets one.1 e in
      let found = unless (is_some (data_at others (record { index = index; subindex = one.0 })))
      (record { index = index; subindex = one.0 }) key named in (
        one.1 ∙ ap (λ (k : Key). k.subindex ∷ []) found.1,
        record {
          has_index = ap (λ (k : Key). k.index) (sym found.1);
          subindex = subst (λ (k : Key). k.subindex < 256) found.1 here;
          absent = ap (λ (k : Key). is_some (data_at others k)) (sym found.1) ∙ found.0;
        },
      );
}
  where
    ap-octet : (n : ℕ) (octets : List ℕ) → octets ≡ n ∷ [] → AreOctets octets → n < 256
    ap-octet n octets is are = subst (λ (os : List ℕ). get_or os 0 0 < 256) is (are 0)

    named-octet : (n : ℕ) (octets : List ℕ) {key : Key} → octets ≡ n ∷ [] → new_key others index (from_be_bytes w8 octets) ≡ Some key
        → new_key others index n ≡ Some key
    named-octet n octets is e = ap (λ os. new_key others index (from_be_bytes w8 os)) (sym is) ∙ e

-- a length that does not make the set of an entry and the others too large
pub record IsLength (others : List Entry) (count : ℕ) : Type 0 where
  pub short : count ≤ MOST_ENTRY_OCTETS
  pub fits : octets_of others + ENTRY_HEAD_OCTETS + count ≤ MOST_SET_OCTETS

pub length_reads : (others : List Entry) → IsField (length_field others) (λ count. count ∷ []) (IsLength others)
length_reads others =
    octet_field (length_field others).value BadField (λ count. count) (IsLength others)
    (λ count is. rw (le-leb _ _ is.short, le-leb _ _ is.fits) refl)
    (λ n count e.
    let is = some_if (leb n MOST_ENTRY_OCTETS && leb (octets_of others + ENTRY_HEAD_OCTETS + n) MOST_SET_OCTETS) n count e in
    let tests = and_parts _ _ is.0 in (
      is.1,
      record {
        short = subst (λ k. k ≤ MOST_ENTRY_OCTETS) is.1 (leb-true _ _ tests.0);
        fits = subst (λ k. octets_of others + ENTRY_HEAD_OCTETS + k ≤ MOST_SET_OCTETS) is.1 (leb-true _ _ tests.1);
      },
    ))
