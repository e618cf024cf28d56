-- Parts: where octets are in them, and what the parts are together.
use Rattle.std.proofs.Common.{◌≡◌, ℕ, zero, suc, ◌+◌, ◌-◌, ◌≤◌, Bool, true, false, cond, List, [], ◌∷◌, ◌++◌, length, get_or, take, drop}
use Rattle.std.proofs.Common.{refl}
use Rattle.std.proofs.Common.{ap, sym, ◌∙◌, arith, subst, leb-true, append_assoc, length-append, slice_get}
use Rattle.std.specs.Prelude.{nat_le, slice_range, All, IfSome, fold}
use Rattle.std.specs.List.{AllByRecursion, concat, flat_map}
use Rattle.std.specs.Int.{w16, to_be_bytes}
use Rattle.std.proofs.lemmas.List.{append-nil, take-append-le, drop-append-le, drop_at, take_all, length-drop, get_or_past, length_push}
use Rattle.std.proofs.lemmas.Grind.{fold-append}
use Rattle.iol_types.specs.DataSet.{Entry, IsEntry}
use Rattle.iol_types.specs.Parts.{PartsValue, no_parts, entry_octets, with_text, grown, texts_of, parts_of, text_numbered, IsWithin}
use Rattle.iol_types.specs.Parts.{octets_at}
use Rattle.iol_types.specs.Parts.{data_after}
use Rattle.iol_types.specs.declared.key.Key.{Key}
use Rattle.iol_types.specs.declared.parts.PartPlace.{PartPlace}
use Rattle.iol_types.specs.declared.parts.TheConstants.{PART_OCTETS}
use Rattle.iol_types.specs.declared.data_set.TheConstants.{ENTRY_HEAD_OCTETS}

-- ---- octets in parts stay in place when a text is appended

-- a text appended to others is found at the first free number
pub get_or-behind : (full : List (List ℕ)) (last other : List ℕ) (i : ℕ) → i ≤ length full → get_or (full ++ last ∷ []) i other
    ≡ get_or full i last
get_or-behind [] last other zero below = refl
get_or-behind [] last other (suc i) below = absurd (omega (arith, below))
get_or-behind (text ∷ full) last other zero below = refl
get_or-behind (text ∷ full) last other (suc i) below = get_or-behind full last other i (omega (arith, below))

-- a text that grows at its end keeps its front
longer : (full : List (List ℕ)) (last more : List ℕ) (i : ℕ)
    → (rest : List ℕ) × (get_or full i (last ++ more) ≡ get_or full i last ++ rest)
longer [] last more i = (more, refl)
longer (text ∷ full) last more zero = ([], sym (append-nil text))
longer (text ∷ full) last more (suc i) = longer full last more i

range-front : (text rest : List ℕ) (from count : ℕ) → from + count ≤ length text → slice_range (text ++ rest) from (from + count)
    ≡ slice_range text from (from + count)
range-front text rest from count within =
    let behind : length (drop from text) ≡ length text - from = length-drop from text in
    ap (take (from + count - from)) (drop-append-le from text rest (omega (arith, within)))
    ∙ take-append-le (from + count - from) (drop from text) rest (omega (arith, behind, within))

-- a place is within parts with one more text, and has the same octets
pub record Stays (parts later : PartsValue) (place : PartPlace) : Type 0 where
  pub within : IsWithin later place
  pub octets : octets_at later place ≡ octets_at parts place

pub stays : (parts : PartsValue) (text : List ℕ) (place : PartPlace) → IsWithin parts place → Stays parts (with_text parts text) place
stays parts text place is = by (nat_le (length parts.last + length text) PART_OCTETS)
  where
    by : (fits : Bool) → Stays parts (cond fits (record { full = parts.full; last = parts.last ++ text })
        (record { full = parts.full ++ parts.last ∷ []; last = text })) place
    by true =
        let (rest, same) = longer parts.full parts.last text place.part in
        record {
          within = record {
            part = is.part;
            end = omega (arith, is.end, ap length same, length-append (text_numbered parts place.part) rest);
          };
          octets = ap (λ front. slice_range front place.offset (place.offset + place.octets)) same
              ∙ range-front (text_numbered parts place.part) rest place.offset place.octets is.end;
        }
    by false =
        let same : get_or (parts.full ++ parts.last ∷ []) place.part text ≡ text_numbered parts place.part =
        get_or-behind parts.full parts.last text place.part is.part in
        record {
          within = record {
            part = omega (arith, is.part, length_push parts.full parts.last);
            end = omega (arith, is.end, ap length same);
          };
          octets = ap (λ front. slice_range front place.offset (place.offset + place.octets)) same;
        }

-- ---- the place of an entry's octets

entry_head : Key → ℕ → List ℕ
entry_head key octets = to_be_bytes w16 key.index ++ (key.subindex ∷ octets ∷ [])

headed : (key : Key) (octets : List ℕ) → entry_octets (key, octets) ≡ entry_head key (length octets) ++ octets
unfolding entry_head
headed key octets = sym (append_assoc (to_be_bytes w16 key.index) (key.subindex ∷ length octets ∷ []) octets)

length-head : (key : Key) (octets : ℕ) → length (entry_head key octets) ≡ ENTRY_HEAD_OCTETS
unfolding entry_head
length-head key octets = refl

range-behind : (before octets : List ℕ) (from : ℕ) → length before ≡ from → slice_range (before ++ octets) from (from + length octets)
    ≡ octets
range-behind before octets from is =
    ap (take (from + length octets - from)) (drop_at before octets from is) ∙ take_all _ octets (omega arith)

pub record LiesThere (later : PartsValue) (place : PartPlace) (said : List ℕ) : Type 0 where
  pub within : IsWithin later place
  pub octets : octets_at later place ≡ said

-- octets are at a place if their text ends with them there
ends_with : (later : PartsValue) (part from : ℕ) (before octets : List ℕ) → part ≤ length later.full
    → text_numbered later part ≡ before ++ octets → length before ≡ from
    → LiesThere later (record { part = part; offset = from; octets = length octets }) octets
ends_with later part from before octets there found counted = record {
  within = record { part = there; end = omega (arith, counted, ap length found, length-append before octets) };
  octets = ap (λ text. slice_range text from (from + length octets)) found ∙ range-behind before octets from counted;
}

-- the place of an entry's octets after its text was appended
pub data_lies : (parts : PartsValue) (key : Key) (octets : List ℕ)
    → LiesThere (with_text parts (entry_octets (key, octets))) (data_after parts (length octets)) octets
data_lies parts key octets =
    subst (λ (count : ℕ). LiesThere (cond (nat_le (length parts.last + count) PART_OCTETS)
    (record { full = parts.full; last = parts.last ++ text }) (record { full = parts.full ++ parts.last ∷ []; last = text }))
    (data_after parts (length octets)) octets) (sym counted)
    (by (nat_le (length parts.last + (ENTRY_HEAD_OCTETS + length octets)) PART_OCTETS))
  where
    text : List ℕ
    text = entry_octets (key, octets)

    head : List ℕ
    head = entry_head key (length octets)

    counted : length text ≡ ENTRY_HEAD_OCTETS + length octets
    counted = omega (arith, ap length (headed key octets), length-append head octets, length-head key (length octets))

    by : (fits : Bool) → LiesThere (cond fits (record { full = parts.full; last = parts.last ++ text })
        (record { full = parts.full ++ parts.last ∷ []; last = text }))
        (cond fits (record { part = length parts.full; offset = length parts.last + ENTRY_HEAD_OCTETS; octets = length octets })
        (record { part = length parts.full + 1; offset = ENTRY_HEAD_OCTETS; octets = length octets })) octets
    by true =
        ends_with (record { full = parts.full; last = parts.last ++ text }) (length parts.full) (length parts.last + ENTRY_HEAD_OCTETS)
        (parts.last ++ head) octets (omega arith)
        (get_or_past parts.full (length parts.full) (parts.last ++ text) (omega arith)
        ∙ ap (λ behind. parts.last ++ behind) (headed key octets) ∙ sym (append_assoc parts.last head octets))
        (omega (arith, length-append parts.last head, length-head key (length octets)))
    by false =
        ends_with (record { full = parts.full ++ parts.last ∷ []; last = text }) (length parts.full + 1) ENTRY_HEAD_OCTETS head octets
        (omega (arith, length_push parts.full parts.last))
        (get_or_past (parts.full ++ parts.last ∷ []) (length parts.full + 1) text (omega (arith, length_push parts.full parts.last))
        ∙ headed key octets)
        (length-head key (length octets))

-- ---- what all parts are together

-- one more entry is one more text
pub grown-push : (entries : List Entry) (entry : Entry) → grown (entries ++ entry ∷ []) ≡ with_text (grown entries) (entry_octets entry)
grown-push entries entry = fold-append (λ parts entry. with_text parts (entry_octets entry)) no_parts entries (entry ∷ [])

concat-push : (texts : List (List ℕ)) (text : List ℕ) → concat (texts ++ text ∷ []) ≡ concat texts ++ text
concat-push [] text = append-nil text
concat-push (one ∷ texts) text = ap (λ rest. one ++ rest) (concat-push texts text) ∙ sym (append_assoc one (concat texts) text)

concat-with_text : (parts : PartsValue) (text : List ℕ) → concat (texts_of (with_text parts text)) ≡ concat (texts_of parts) ++ text
concat-with_text parts text = by (nat_le (length parts.last + length text) PART_OCTETS)
  where
    by : (fits : Bool) → concat (texts_of (cond fits (record { full = parts.full; last = parts.last ++ text })
        (record { full = parts.full ++ parts.last ∷ []; last = text }))) ≡ concat (texts_of parts) ++ text
    by true =
        concat-push parts.full (parts.last ++ text) ∙ sym (append_assoc (concat parts.full) parts.last text)
        ∙ ap (λ front. front ++ text) (sym (concat-push parts.full parts.last))
    by false = concat-push (parts.full ++ parts.last ∷ []) text

concat-from : (parts : PartsValue) (entries : List Entry)
    → concat (texts_of (fold (λ parts entry. with_text parts (entry_octets entry)) parts entries))
    ≡ concat (texts_of parts) ++ flat_map entry_octets entries
concat-from parts [] = sym (append-nil (concat (texts_of parts)))
concat-from parts (entry ∷ entries) =
    concat-from (with_text parts (entry_octets entry)) entries
    ∙ ap (λ front. front ++ flat_map entry_octets entries) (concat-with_text parts (entry_octets entry))
    ∙ append_assoc (concat (texts_of parts)) (entry_octets entry) (flat_map entry_octets entries)

-- the parts in order are the entries' octets
pub concat-parts_of : (entries : List Entry) → concat (parts_of entries) ≡ flat_map entry_octets entries
concat-parts_of [] = refl
concat-parts_of (entry ∷ entries) = concat-from no_parts (entry ∷ entries)

abbrev pub IsShort : List ℕ → Type 0
IsShort text = length text ≤ PART_OCTETS

all-push : (texts : List (List ℕ)) (text : List ℕ) → AllByRecursion IsShort texts → IsShort text
    → AllByRecursion IsShort (texts ++ text ∷ [])
all-push [] text all is = (is, tt)
all-push (one ∷ texts) text all is = (all.0, all-push texts text all.1 is)

-- parts without a long one
record AreShort (parts : PartsValue) : Type 0 where
  full : AllByRecursion IsShort parts.full
  last : IsShort parts.last

short-with_text : (parts : PartsValue) (text : List ℕ) → AreShort parts → IsShort text → AreShort (with_text parts text)
short-with_text parts text are is = by (nat_le (length parts.last + length text) PART_OCTETS) refl
  where
    by : (fits : Bool) → nat_le (length parts.last + length text) PART_OCTETS ≡ fits
        → AreShort (cond fits (record { full = parts.full; last = parts.last ++ text })
        (record { full = parts.full ++ parts.last ∷ []; last = text }))
    by true fits = record {
      full = are.full;
      last = let room : length parts.last + length text ≤ PART_OCTETS = leb-true _ _ fits in
          omega (arith, length-append parts.last text, room);
    }
    by false fits = record { full = all-push parts.full parts.last are.full are.last; last = is }

short-from : (parts : PartsValue) (entries : List Entry) → AreShort parts → All IsEntry entries
    → AreShort (fold (λ parts entry. with_text parts (entry_octets entry)) parts entries)
short-from parts [] are all = are
short-from parts (entry ∷ entries) are all =
    let is : IsEntry entry = all 0 entry (omega arith) in
    let short : IsShort (entry_octets entry) =
    omega (arith, is.short, length-append (to_be_bytes w16 entry.0.index) (entry.0.subindex ∷ length entry.1 ∷ entry.1)) in
    short-from (with_text parts (entry_octets entry)) entries (short-with_text parts (entry_octets entry) are short)
    (λ i d below. all (suc i) d (omega (arith, below)))

found-short : (texts : List (List ℕ)) (i : ℕ) → AllByRecursion IsShort texts → IfSome (slice_get texts i) IsShort
found-short [] i all = tt
found-short (text ∷ texts) zero all = all.0
found-short (text ∷ texts) (suc i) all = found-short texts i all.1

-- and none of them has more than 512 octets
pub short-parts_of : (entries : List Entry) (i : ℕ) → All IsEntry entries → IfSome (slice_get (parts_of entries) i) IsShort
short-parts_of [] i all = tt
short-parts_of (entry ∷ entries) i all =
    let are = short-from no_parts (entry ∷ entries) (record { full = tt; last = omega arith }) all in
    found-short _ i (all-push _ _ are.full are.last)
