-- Entries and sets read back.
use Rattle.std.proofs.Common.{◌≡◌, ℕ, ◌<◌, ◌+◌, ◌^◌, zero, suc, List, [], ◌∷◌, ◌++◌, length, Ok, refl, ap, sym, subst, arith, append_assoc}
use Rattle.std.proofs.Common.{length-append}
use Rattle.std.specs.List.{flat_map}
use Rattle.std.proofs.lemmas.List.{append-nil}
use Rattle.std.proofs.lemmas.List.Sums.{sum_by-append}
use Rattle.iol_types.proofs.Entries.{MayBeAdded, may-stand, one-more, no-entries, length-octets_of}
use Rattle.iol_types.specs.declared.data_set.TheConstants.{ENTRY_HEAD_OCTETS}
use Rattle.std.specs.Int.{w16, w32, to_be_bytes}
use Rattle.iol_types.specs.declared.key.Key.{Key}
use Rattle.iol_types.specs.Key.{IsKey}
use Rattle.iol_types.specs.DataSet.{Entry, AreEntries, SetValue, IsSet, octets_of}
use Rattle.iol_types.specs.Numbers.{IsDeviceNumber}
use Rattle.iol_record.specs.declared.records.SetHead.{SetHead}
use Rattle.iol_types.specs.Parts.{entry_octets}
use Rattle.iol_record.specs.Record.{set_octets}
use Rattle.iol_record.specs.Reading.{Reading, followed, joined, field_at, octets_at, subindex_field, length_field, entry_at, entries_at}
use Rattle.iol_record.specs.Reading.{set_head_at, set_with, set_at}
use Rattle.iol_record.proofs.Readers.{Splits, IsReader, field_reads, octets_reads, both_reads, joined_reads, followed_reads, nothing_reads}
use Rattle.iol_record.proofs.Fields.{IsFreeIndex, IsNewKey, IsLength, index_reads, subindex_reads, length_reads, vendor_reads, device_reads}
use Rattle.iol_record.proofs.Fields.{checksum_reads, count_reads}

-- ---- entries

module _ (others : List Entry) where
  -- an entry with this key and `count` octets
  abbrev IsOf : Key → ℕ → Entry → Type 0
  IsOf key count entry = (entry.0 ≡ key) × (length entry.1 ≡ count)

  data_reads : (key : Key) (count : ℕ)
      → IsReader (joined (λ (octets : List ℕ). (key, octets)) (octets_at count)) (λ (entry : Entry). entry.1) (IsOf key count)
  data_reads key count =
      joined_reads (λ (octets : List ℕ). (key, octets)) _ _ (λ (entry : Entry). entry.1) _ (IsOf key count)
      (record {
        made = λ entry is. (entry.1, ap (λ (k : Key). (k, entry.1)) (sym is.0), is.1);
        spelled = λ octets. refl;
        in_range = λ octets is. (refl, is);
      })
      (octets_reads count)

  -- an entry with this key, whose length the others allow
  abbrev HasKey : Key → Entry → Type 0
  HasKey key entry = (entry.0 ≡ key) × IsLength others (length entry.1)

  abbrev after_key : Key → Reading Entry
  after_key key = followed (field_at (length_field others)) (λ count. joined (λ octets. (key, octets)) (octets_at count))

  after_key_reads : (key : Key) → IsReader (after_key key) (λ (entry : Entry). length entry.1 ∷ entry.1) (HasKey key)
  after_key_reads key =
      followed_reads _ _ _ (λ (entry : Entry). entry.1) _ _ (IsOf key) (HasKey key)
      (record {
        first = λ entry is. (length entry.1, is.1, (is.0, refl));
        spelled = λ count entry is. ap (λ (n : ℕ). n ∷ entry.1) is.1;
        in_range = λ count entry fits is. (is.0, subst (IsLength others) (sym is.1) fits);
      })
      (field_reads _ _ _ (length_reads others)) (data_reads key)

  -- an entry with this Index, whose key and length the others allow
  abbrev HasIndex : ℕ → Entry → Type 0
  HasIndex index entry = IsNewKey others index entry.0 × IsLength others (length entry.1)

  abbrev after_index : ℕ → Reading Entry
  after_index index = followed (field_at (subindex_field others index)) after_key

  after_index_reads : (index : ℕ)
      → IsReader (after_index index) (λ (entry : Entry). entry.0.subindex ∷ length entry.1 ∷ entry.1) (HasIndex index)
  after_index_reads index =
      followed_reads _ after_key _ (λ (entry : Entry). length entry.1 ∷ entry.1) _ _ HasKey (HasIndex index)
      (record {
        first = λ entry is. (entry.0, is.0, (refl, is.1));
        spelled = λ key entry is. ap (λ (k : Key). k.subindex ∷ length entry.1 ∷ entry.1) is.0;
        in_range = λ key entry new is. (subst (IsNewKey others index) (sym is.0) new, is.1);
      })
      (field_reads _ _ _ (subindex_reads others index)) after_key_reads

  -- an entry that the others allow
  abbrev pub IsNext : Entry → Type 0
  IsNext entry = IsFreeIndex entry.0.index × HasIndex entry.0.index entry

  pub entry_reads : IsReader (entry_at others) entry_octets IsNext
  unfolding entry_at
  entry_reads =
      followed_reads _ after_index _ (λ (entry : Entry). entry.0.subindex ∷ length entry.1 ∷ entry.1) _ _ HasIndex IsNext
      (record {
        first = λ entry is. (entry.0.index, is.0, is.1);
        spelled = λ index entry is. ap (λ (i : ℕ). to_be_bytes w16 i ++ (entry.0.subindex ∷ length entry.1 ∷ entry.1)) is.0.has_index;
        in_range = λ index entry free is. allowed index entry free is;
      })
      (field_reads _ _ _ index_reads) after_index_reads
    where
      allowed : (index : ℕ) (entry : Entry) → IsFreeIndex index → HasIndex index entry → IsNext entry
      allowed index entry free is =
          let same = sym is.0.has_index in
          (subst IsFreeIndex same free, subst (λ (i : ℕ). HasIndex i entry) same is)

-- ---- entries after others, and sets

-- entries each of which is allowed after those before it
abbrev pub AreNext : List Entry → List Entry → Type 0
AreNext others [] = Unit {0}
AreNext others (entry ∷ more) = IsNext others entry × AreNext (others ++ entry ∷ []) more

-- this number of such entries
abbrev pub AreSoMany : ℕ → List Entry → List Entry → Type 0
AreSoMany count others more = (length more ≡ count) × AreNext others more

abbrev all_octets : List Entry → List ℕ
all_octets entries = flat_map entry_octets entries

-- the reading of the entries after one
abbrev behind : ℕ → List Entry → Entry → Reading (List Entry)
behind count others entry = joined (λ (more : List Entry). entry ∷ more) (entries_at count (others ++ entry ∷ []))

abbrev rest_of : List Entry → List Entry
rest_of [] = []
rest_of (entry ∷ more) = more

abbrev IsBegunBy : ℕ → List Entry → Entry → List Entry → Type 0
IsBegunBy count others entry all = (more : List Entry) × (all ≡ entry ∷ more) × AreSoMany count (others ++ entry ∷ []) more

pub entries_read : (count : ℕ) (others : List Entry) → IsReader (entries_at count others) all_octets (AreSoMany count others)
entries_read zero others =
    record {
      again = again;
      takes = λ octets more rest are e. taken octets more rest (nothing.takes octets more rest are e);
      stays = nothing.stays;
    }
  where
    nothing : IsReader {A = List Entry} (λ octets. Ok ([], octets)) (λ _. []) (λ more. more ≡ [])
    nothing = nothing_reads []

    again : (more : List Entry) (rest : List ℕ) → AreSoMany zero others more → entries_at zero others (all_octets more ++ rest)
        ≡ Ok (more, rest)
    again [] rest is = refl
    again (entry ∷ more) rest is = absurd (omega (arith, is.0))

    taken : (octets : List ℕ) (more : List Entry) (rest : List ℕ) → Splits octets [] rest × (more ≡ [])
        → Splits octets (all_octets more) rest × AreSoMany zero others more
    taken octets [] rest is = (is.0, (refl, tt))
    taken octets (entry ∷ more) rest is = let other = is.1 in cc
entries_read (suc count) others =
    followed_reads (entry_at others) (behind count others) entry_octets (λ more. all_octets (rest_of more)) all_octets _
    (IsBegunBy count others) (AreSoMany (suc count) others)
    (record { first = first; spelled = spelled; in_range = in_range }) (entry_reads others) (λ entry.
    after_reads entry (entries_read count (others ++ entry ∷ [])))
  where
    first : (all : List Entry) → AreSoMany (suc count) others all → (entry : Entry) × IsNext others entry × IsBegunBy count others entry all
    first [] is = absurd (omega (arith, is.0))
    first (entry ∷ more) is = (entry, is.1.0, (more, refl, (omega (arith, is.0), is.1.1)))

    spelled : (entry : Entry) (all : List Entry) → IsBegunBy count others entry all → all_octets all ≡ entry_octets entry
        ++ all_octets (rest_of all)
    spelled entry all is = rw is.1 refl

    in_range : (entry : Entry) (all : List Entry) → IsNext others entry → IsBegunBy count others entry all
        → AreSoMany (suc count) others all
    in_range entry all next is = rw is.1 (omega (arith, is.2.0), (next, is.2.1))

    after_reads : (entry : Entry) → IsReader (entries_at count (others ++ entry ∷ [])) all_octets (AreSoMany count (others ++ entry ∷ []))
        → IsReader (behind count others entry) (λ more. all_octets (rest_of more)) (IsBegunBy count others entry)
    after_reads entry reads =
        joined_reads (λ (more : List Entry). entry ∷ more) _ all_octets _ _ (IsBegunBy count others entry)
        (record {
          made = λ all is. (is.0, sym is.1, is.2);
          spelled = λ more. refl;
          in_range = λ more is. (more, refl, is);
        })
        reads

-- ---- sets

-- entries of a set are each allowed after those before them
are_next : (others more : List Entry) → AreEntries (others ++ more) → AreNext others more
are_next others [] are = tt
are_next others (entry ∷ more) are =
    let may = may-stand others entry more are in
    let free : IsFreeIndex entry.0.index = record { below = may.0.index; free = may.1.free } in
    let new : IsNewKey others entry.0.index entry.0 = record { has_index = refl; subindex = may.0.subindex; absent = may.1.absent } in
    let fits : IsLength others (length entry.1) = record { short = may.1.short; fits = may.1.fits } in
    ((free, (new, fits)), are_next (others ++ entry ∷ []) more (subst AreEntries (sym (append_assoc others (entry ∷ []) more)) are))

-- and conversely
are_entries : (others more : List Entry) → AreEntries others → AreNext others more → AreEntries (others ++ more)
are_entries others [] are next = subst AreEntries (sym (append-nil others)) are
are_entries others (entry ∷ more) are next =
    let in_range : IsKey entry.0 = record { index = next.0.0.below; subindex = next.0.1.0.subindex } in
    let may : MayBeAdded others entry.0 entry.1 =
    record { free = next.0.0.free; short = next.0.1.1.short; absent = next.0.1.0.absent; fits = next.0.1.1.fits } in
    subst AreEntries (append_assoc others (entry ∷ []) more)
    (are_entries (others ++ entry ∷ []) more (one-more others entry.0 entry.1 are in_range may) next.1)

-- the octets of the numbers in front of the entries
abbrev head_octets : SetHead → List ℕ
head_octets head = to_be_bytes w16 head.vendor ++ to_be_bytes w32 head.device ++ to_be_bytes w32 head.checksum ++ to_be_bytes w16 head.count

pub record IsHead (head : SetHead) : Type 0 where
  pub vendor : head.vendor < 2 ^ 16
  pub device : IsDeviceNumber head.device
  pub checksum : head.checksum < 2 ^ 32
  pub count : head.count < 2 ^ 16

abbrev head_of : ℕ × (ℕ × (ℕ × ℕ)) → SetHead
head_of parts = record { vendor = parts.0; device = parts.1.0; checksum = parts.1.1.0; count = parts.1.1.1 }

head_reads : IsReader set_head_at head_octets IsHead
unfolding set_head_at
head_reads =
    joined_reads head_of _ _ head_octets _ IsHead
    (record {
      made = λ head is. (
        (head.vendor, (head.device, (head.checksum, head.count))),
        refl,
        (is.vendor, (is.device, (is.checksum, is.count))),
      );
      spelled = λ parts. refl;
      in_range = λ parts is. record { vendor = is.0; device = is.1.0; checksum = is.1.1.0; count = is.1.1.1 };
    })
    (both_reads _ _ _ _ _ _ (field_reads _ _ _ vendor_reads)
    (both_reads _ _ _ _ _ _ (field_reads _ _ _ device_reads)
    (both_reads _ _ _ _ _ _ (field_reads _ _ _ checksum_reads) (field_reads _ _ _ count_reads))))

-- a set with these numbers
abbrev HasHead : SetHead → SetValue → Type 0
HasHead head set = (entries : List Entry) × (set ≡ set_with head entries) × AreSoMany head.count [] entries

abbrev after_head : SetHead → Reading SetValue
after_head head = joined (set_with head) (entries_at head.count [])

after_head_reads : (head : SetHead) → IsReader (after_head head) (λ set. all_octets set.entries) (HasHead head)
after_head_reads head =
    joined_reads (set_with head) _ all_octets _ _ (HasHead head)
    (record {
      made = λ set is. (is.0, sym is.1, is.2);
      spelled = λ entries. refl;
      in_range = λ entries is. (entries, refl, is);
    })
    (entries_read head.count [])

pub set_reads : IsReader set_at set_octets IsSet
unfolding set_at
set_reads =
    followed_reads set_head_at after_head head_octets (λ set. all_octets set.entries) set_octets IsHead HasHead IsSet
    (record { first = first; spelled = spelled; in_range = in_range }) head_reads after_head_reads
  where
    first : (set : SetValue) → IsSet set → (head : SetHead) × IsHead head × HasHead head set
    first set is =
        let head : SetHead = record { vendor = set.vendor; device = set.device; checksum = set.checksum; count = length set.entries } in
        let is_head : IsHead head = record {
          vendor = is.vendor;
          device = is.device;
          checksum = is.checksum;
          count = omega (arith, is.entries.fits, length-octets_of set.entries);
        } in
        (head, is_head, (set.entries, refl, (refl, are_next [] set.entries is.entries)))

    spelled : (head : SetHead) (set : SetValue) → HasHead head set → set_octets set ≡ head_octets head ++ all_octets set.entries
    spelled head set is = rw (is.1, is.2.0) refl

    in_range : (head : SetHead) (set : SetValue) → IsHead head → HasHead head set → IsSet set
    in_range head set is has =
        let whole : IsSet (set_with head has.0) = record {
          entries = are_entries [] has.0 no-entries has.2.1;
          vendor = is.vendor;
          device = is.device;
          checksum = is.checksum;
        } in
        subst IsSet (sym has.1) whole

length-all_octets : (entries : List Entry) → length (all_octets entries) ≡ octets_of entries
length-all_octets [] = refl
length-all_octets (entry ∷ entries) =
    omega (
      arith,
      length-all_octets entries,
      length-append (entry_octets entry) (all_octets entries),
      sum_by-append (λ (e : Entry). ENTRY_HEAD_OCTETS + length e.1) (entry ∷ []) entries,
    )

-- a set has twelve octets and those that its entries count
pub length-set_octets : (set : SetValue) → length (set_octets set) ≡ 12 + octets_of set.entries
length-set_octets set = omega (arith, length-all_octets set.entries)
