-- If an answer ends an upload with a fault, the answer is the cause of that fault.
use Rattle.std.proofs.Common.{◌≡◌, ◌≢◌, ℕ, ◌+◌, ◌<◌, ◌≤◌, ◌⊎◌, inl, inr, suc, Bool, true, false, not, cond, List, [], ◌∷◌, ◌++◌, length}
use Rattle.std.proofs.Common.{All, Some, None, is_some, refl, ap, sym, ◌∙◌, subst, arith}
use Rattle.std.proofs.lemmas.List.Elements.{All-append}
use Rattle.std.specs.Prelude.{nat_lt, ◌==◌, Result, Ok, Err}
use Rattle.std.specs.List.{IsDistinct}
use Rattle.std.specs.Map.{keys_of}
use borrow.Author.Tests.{ltb-true, ltb-false}
use Rattle.std.proofs.lemmas.Bool.Decides.{nat_tests}
use Rattle.iol_types.specs.Key.{same_key, is_reserved}
use Rattle.iol_types.specs.declared.key.Key.{Key}
use Rattle.iol_types.specs.declared.key.TheConstants.{DATA_STORAGE}
use Rattle.iol_types.specs.declared.data_set.TheConstants.{MOST_SET_OCTETS, MOST_ENTRY_OCTETS, ENTRY_HEAD_OCTETS}
use Rattle.iol_types.specs.declared.set_builder.AddFault.TheVariants.{ReservedKey, EntryTooLong, Duplicate, SetTooLarge}
use Rattle.iol_types.specs.DataSet.{Entry, SetValue, data_at, octets_of, add_fault}
use Rattle.iol_types.proofs.Entries.{absent-before}
use Rattle.iol_link.specs.declared.messages.Answer.{Answer}
use Rattle.iol_link.specs.declared.messages.Answer.TheVariants.{ReadOk, ReadFault, WriteOk, WriteFault, Busy}
use Rattle.iol_transfer.specs.List.{Listing, reading_of}
use Rattle.iol_transfer.specs.declared.list.Next.{Next}
use Rattle.iol_transfer.specs.declared.list.Next.TheVariants as next_is
use Rattle.iol_transfer.specs.declared.list.ListFault.{ListFault}
use Rattle.iol_transfer.specs.declared.object.TheConstants.{INDEX_LIST}
use Rattle.iol_transfer.proofs.ReadKeys.{reading_of-free, first_places-each, first_places-apart}
use Rattle.iol_transfer.specs.declared.fault.TransferFault.{TransferFault}
use Rattle.iol_transfer.specs.declared.fault.TransferFault.TheVariants as fault
use Rattle.iol_transfer.specs.declared.repeats.TheConstants.{MOST_REQUESTS}
use Rattle.iol_transfer.specs.declared.upload.TheConstants.{MOST_LISTS}
use Rattle.iol_transfer.specs.Exchanges.{Exchange}
use Rattle.iol_transfer.specs.Upload.{number_of, AreLists, FollowsList}
use Rattle.iol_transfer.specs.Asked.{Asks, Start, Size, IndexList, Value, Checksum, HasRead, IsAsking, is_write, refusal, answers, IsCause}
use Rattle.iol_transfer.specs.Asked.{IsShort, NeedsMemory, EndsIn}
use Rattle.iol_transfer.specs.Machine.{Machine, More, Whole, Fault, begun, after_size, after_list, after_value, after_checksum}
use Rattle.iol_transfer.specs.Machine.{after_refusal, step, Leads}
use Rattle.iol_transfer.proofs.Order.{upload_at}
use Rattle.iol_transfer.proofs.GoingOn.{under-way}

-- ---- the keys of an upload's lists

-- no key of the lists is reserved
lists-free : (index subindex : ℕ) (lists : List Exchange) (keys : List Key) → AreLists index subindex lists keys
    → All (λ key. is_reserved key ≡ false) keys
lists-free index subindex [] keys are = absurd are
lists-free index subindex (exchange ∷ lists) keys are =
    by are.2 are.4 are.5 (λ further others them. lists-free further 0 lists others them)
  where
    by : (next : Next) → reading_of are.0 ≡ Ok (are.1, next)
        → FollowsList next ((lists ≡ []) × (keys ≡ are.1))
        (λ further. (others : List Key) × AreLists further 0 lists others × (keys ≡ are.1 ++ others))
        → ((further : ℕ) (others : List Key) → AreLists further 0 lists others → All (λ key. is_reserved key ≡ false) others)
        → All (λ key. is_reserved key ≡ false) keys
    by next_is.End is ends again = subst (All (λ key. is_reserved key ≡ false)) (sym ends.1) (reading_of-free are.0 are.1 next_is.End is)
    by (next_is.List further) is names again =
        subst (All (λ key. is_reserved key ≡ false)) (sym names.2)
        (All-append (λ key. is_reserved key ≡ false) are.1 names.0 (reading_of-free are.0 are.1 (next_is.List further) is)
        (again further names.0 names.1))

-- the next key that is left is not reserved, and its value was not read yet
pub record IsFresh (entries : List Entry) (key : Key) : Type 0 where
  pub free : is_reserved key ≡ false
  pub absent : is_some (data_at entries key) ≡ false

middle : {A : Type 0} (P : A → Type 0) (before : List A) (item : A) (behind : List A) → All P (before ++ item ∷ behind) → P item
middle P [] item behind all = all 0 item (omega arith)
middle P (first ∷ before) item behind all = middle P before item behind (λ i d below. all (suc i) d (omega (arith, below)))

fresh : (entries : List Entry) (key : Key) (behind : List Key) (settled : List Exchange) → HasRead entries (key ∷ behind) settled
    → IsFresh entries key
fresh entries key behind settled has = record {
  free =
      middle (λ k. is_reserved k ≡ false) (keys_of entries) key behind
      (subst (All (λ k. is_reserved k ≡ false)) (sym has.keys)
      (first_places-each (λ k. is_reserved k ≡ false) has.listed (lists-free DATA_STORAGE INDEX_LIST has.lists has.listed has.chain)));
  absent = absent-before entries key behind (subst (IsDistinct same_key) (sym has.keys) (first_places-apart has.listed));
}

-- if the value of a fresh key, of at most 232 octets, is not added, the set is too large
too-large : (entries : List Entry) (key : Key) (octets : List ℕ) → IsFresh entries key → length octets ≤ MOST_ENTRY_OCTETS
    → is_some (add_fault entries key octets) ≡ true → MOST_SET_OCTETS < octets_of entries + ENTRY_HEAD_OCTETS + length octets
too-large entries key octets is short refused =
    let long : nat_lt MOST_ENTRY_OCTETS (length octets) ≡ false = grind (arith, nat_tests, short) in
    by (is_reserved key) (nat_lt MOST_ENTRY_OCTETS (length octets)) (is_some (data_at entries key))
    (nat_lt MOST_SET_OCTETS (octets_of entries + ENTRY_HEAD_OCTETS + length octets)) is.free long is.absent refl refused
  where
    by : (reserved long there large : Bool) → reserved ≡ false → long ≡ false → there ≡ false
        → nat_lt MOST_SET_OCTETS (octets_of entries + ENTRY_HEAD_OCTETS + length octets) ≡ large
        → is_some (cond reserved (Some ReservedKey)
        (cond long (Some EntryTooLong) (cond there (Some Duplicate) (cond large (Some SetTooLarge) None)))) ≡ true
        → MOST_SET_OCTETS < octets_of entries + ENTRY_HEAD_OCTETS + length octets
    by true long there large r l t s refused = cc
    by false true there large r l t s refused = cc
    by false false true large r l t s refused = cc
    by false false false true r l t s refused = ltb-true _ _ s
    by false false false false r l t s refused = cc

-- ---- outcomes that are a fault

same-fault : (one two : TransferFault) → Fault one ≡ Fault two → one ≡ two
same-fault one two is = cc

-- if only one of two outcomes is a fault, a result that is a fault is that one
fault-second : (test : Bool) (after : Machine) (why told : TransferFault) → cond test (More after) (Fault why) ≡ Fault told
    → (test ≡ false) × (why ≡ told)
fault-second true after why told is = cc
fault-second false after why told is = (refl, same-fault _ _ is)

fault-first : (test : Bool) (after : Machine) (why told : TransferFault) → cond test (Fault why) (More after) ≡ Fault told
    → (test ≡ true) × (why ≡ told)
fault-first true after why told is = (refl, same-fault _ _ is)
fault-first false after why told is = cc

whole-or-fault : (test : Bool) (set : SetValue) (why told : TransferFault) → cond test (Whole set) (Fault why) ≡ Fault told
    → (test ≡ false) × (why ≡ told)
whole-or-fault true set why told is = cc
whole-or-fault false set why told is = (refl, same-fault _ _ is)

not-equal : (one two : ℕ) → (one == two) ≡ false → one ≢ two
not-equal one two test = λ same. let yes : (one == two) ≡ true = grind (arith, nat_tests, same) in cc

-- ---- causes

-- an answer (-) to the request is a refusal; else it belongs to the other service
refused-cause : (right : Bool) (asks : Asks) (busy : ℕ) (answer : Answer) (error additional : ℕ) (why : TransferFault)
    → (right ≡ true → answer ≡ refusal (is_write asks) error additional) → (right ≡ false → answers (is_write asks) answer → ⊥)
    → after_refusal right error additional ≡ Fault why → IsCause asks busy answer why
refused-cause true asks busy answer error additional why to_it other told =
    subst (IsCause asks busy answer) (same-fault _ _ told) (to_it refl)
refused-cause false asks busy answer error additional why to_it other told =
    subst (IsCause asks busy answer) (same-fault _ _ told) (inl (other refl))

differ : true ≡ false → ⊥
differ same = cc

turned : (test other : Bool) → not test ≡ other → test ≡ not other
turned true true is = cc
turned true false is = refl
turned false true is = refl
turned false false is = cc

-- the fault at the declared size
size-cause : (vendor device busy : ℕ) (octets : List ℕ) (why : TransferFault)
    → after_size (upload_at vendor device Size busy) octets ≡ Fault why → IsCause Size busy (ReadOk (record { items = octets })) why
size-cause vendor device busy octets why is =
    by (length octets == 4) (nat_lt MOST_SET_OCTETS (number_of octets)) refl refl is
  where
    by : (four large : Bool) → (length octets == 4) ≡ four → nat_lt MOST_SET_OCTETS (number_of octets) ≡ large
        → cond (not four) (Fault fault.Unexpected)
        (cond large (Fault fault.Size) (More (upload_at vendor device (IndexList DATA_STORAGE INDEX_LIST 0 []) 0))) ≡ Fault why
        → IsCause Size busy (ReadOk (record { items = octets })) why
    by false large f l is =
        subst (IsCause Size busy (ReadOk (record { items = octets }))) (same-fault _ _ is)
        (inr (refl, octets, refl, not-equal (length octets) 4 f))
    by true true f l is =
        let four : length octets ≡ 4 = grind (arith, nat_tests, f) in
        subst (IsCause Size busy (ReadOk (record { items = octets }))) (same-fault _ _ is) (octets, refl, (four, ltb-true _ _ l))
    by true false f l is = cc

-- the fault at a list, if fewer than sixteen lists were read before it
list-cause : (vendor device busy index subindex lists : ℕ) (keys : List Key) (octets : List ℕ) (why : TransferFault)
    (said : Result Listing ListFault)
    → reading_of octets ≡ said → lists < MOST_LISTS
    → after_list (upload_at vendor device (IndexList index subindex lists keys) busy) lists keys said ≡ Fault why
    → IsCause (IndexList index subindex lists keys) busy (ReadOk (record { items = octets })) why
list-cause vendor device busy index subindex lists keys octets why (Err cause) read few is =
    subst (IsCause (IndexList index subindex lists keys) busy (ReadOk (record { items = octets }))) (same-fault _ _ is)
    (octets, refl, inl (cause, read))
list-cause vendor device busy index subindex lists keys octets why (Ok (listed, next_is.End)) read few is = cc
list-cause vendor device busy index subindex lists keys octets why (Ok (listed, next_is.List further)) read few is =
    let chosen = fault-second (nat_lt (lists + 1) MOST_LISTS) _ fault.List why is in
    let last : lists + 1 ≡ MOST_LISTS = omega (arith, few, ltb-false _ _ chosen.0) in
    subst (IsCause (IndexList index subindex lists keys) busy (ReadOk (record { items = octets }))) chosen.1
    (octets, refl, inr (listed, further, read, last))

-- the fault at a value
value-cause : (vendor device busy : ℕ) (entries : List Entry) (key : Key) (behind : List Key) (octets : List ℕ) (why : TransferFault)
    → IsFresh entries key
    → length octets ≤ MOST_ENTRY_OCTETS
    → after_value (upload_at vendor device (Value entries key behind) busy) entries key behind octets ≡ Fault why
    → IsCause (Value entries key behind) busy (ReadOk (record { items = octets })) why
value-cause vendor device busy entries key behind octets why is_fresh short is =
    let chosen = fault-first (is_some (add_fault entries key octets)) _ fault.Size why is in
    subst (IsCause (Value entries key behind) busy (ReadOk (record { items = octets }))) chosen.1
    (octets, refl, too-large entries key octets is_fresh short chosen.0)

-- the fault at the checksum
checksum-cause : (vendor device busy : ℕ) (entries : List Entry) (octets : List ℕ) (why : TransferFault)
    → after_checksum (upload_at vendor device (Checksum entries) busy) entries octets ≡ Fault why
    → IsCause (Checksum entries) busy (ReadOk (record { items = octets })) why
checksum-cause vendor device busy entries octets why is =
    let chosen = whole-or-fault (length octets == 4) _ fault.Unexpected why is in
    subst (IsCause (Checksum entries) busy (ReadOk (record { items = octets }))) chosen.1
    (inr (refl, octets, refl, not-equal (length octets) 4 chosen.0))

-- an answer of the other service is unexpected
unexpected : (asks : Asks) (busy : ℕ) (answer : Answer) (why : TransferFault) → (answers (is_write asks) answer → ⊥)
    → Fault fault.Unexpected ≡ Fault why → IsCause asks busy answer why
unexpected asks busy answer why not_to_it is = subst (IsCause asks busy answer) (same-fault _ _ is) (inl not_to_it)

-- each answer that ends an upload with a fault
cause-of : (vendor device busy : ℕ) (asks : Asks) (answer : Answer) (conversation : List Exchange) (why : TransferFault)
    → IsAsking conversation asks busy
    → IsShort answer → step (upload_at vendor device asks busy) answer ≡ Fault why → IsCause asks busy answer why
cause-of vendor device busy asks Busy conversation why asking short is =
    let chosen = fault-second (nat_lt (busy + 1) MOST_REQUESTS) _ fault.Busy why is in
    let last : busy + 1 ≡ MOST_REQUESTS = omega (arith, asking.few, ltb-false _ _ chosen.0) in
    subst (IsCause asks busy Busy) chosen.1 (refl, last)
cause-of vendor device busy Start WriteOk conversation why asking short is = cc
cause-of vendor device busy Size WriteOk conversation why asking short is = unexpected Size busy WriteOk why (λ wrong. cc) is
cause-of vendor device busy (IndexList index subindex lists keys) WriteOk conversation why asking short is =
    unexpected (IndexList index subindex lists keys) busy WriteOk why (λ wrong. cc) is
cause-of vendor device busy (Value entries key behind) WriteOk conversation why asking short is =
    unexpected (Value entries key behind) busy WriteOk why (λ wrong. cc) is
cause-of vendor device busy (Checksum entries) WriteOk conversation why asking short is =
    unexpected (Checksum entries) busy WriteOk why (λ wrong. cc) is
cause-of vendor device busy asks (ReadFault error additional) conversation why asking short is =
    refused-cause (not (is_write asks)) asks busy (ReadFault error additional) error additional why
    (λ right. ap (λ write. refusal write error additional) (sym (turned (is_write asks) true right)))
    (λ wrong to_read. differ (sym (turned (is_write asks) false wrong) ∙ to_read)) is
cause-of vendor device busy asks (WriteFault error additional) conversation why asking short is =
    refused-cause (is_write asks) asks busy (WriteFault error additional) error additional why
    (λ right. ap (λ write. refusal write error additional) (sym right)) (λ wrong to_write. differ (sym to_write ∙ wrong)) is
cause-of vendor device busy Start (ReadOk values) conversation why asking short is =
    unexpected Start busy (ReadOk values) why (λ wrong. cc) is
cause-of vendor device busy Size (ReadOk values) conversation why asking short is = size-cause vendor device busy values.items why is
cause-of vendor device busy (IndexList index subindex lists keys) (ReadOk values) conversation why asking short is =
    list-cause vendor device busy index subindex lists keys values.items why (reading_of values.items) refl asking.asked.few is
cause-of vendor device busy (Value entries key behind) (ReadOk values) conversation why asking short is =
    value-cause vendor device busy entries key behind values.items why (fresh entries key behind asking.settled asking.asked) short is
cause-of vendor device busy (Checksum entries) (ReadOk values) conversation why asking short is =
    checksum-cause vendor device busy entries values.items why is

-- if the exchanges since an upload began are known, an answer that ends it with a fault, or for which the needed memory
-- is not available, is the cause of the fault
pub ends-in : (vendor device : ℕ) (conversation : List Exchange) (machine : Machine) (answer : Answer) (why : TransferFault)
    → Leads (begun vendor device) conversation machine → IsShort answer
    → (step machine answer ≡ Fault why) ⊎ ((why ≡ fault.Memory) × NeedsMemory machine.asks answer) → EndsIn conversation answer why
ends-in vendor device conversation machine answer why leads short told =
    let way = under-way vendor device conversation machine leads in
    record { asks = machine.asks; busy = machine.busy; asking = way.asking; cause = by told way.asking }
  where
    by : (step machine answer ≡ Fault why) ⊎ ((why ≡ fault.Memory) × NeedsMemory machine.asks answer)
        → IsAsking conversation machine.asks machine.busy
        → IsCause machine.asks machine.busy answer why
    by (inl is) asking = cause-of machine.vendor machine.device machine.busy machine.asks answer conversation why asking short is
    by (inr needed) asking = subst (IsCause machine.asks machine.busy answer) (sym needed.0) needed.1
