-- A finished upload leaves its upload whole.
use Rattle.std.proofs.Common.{◌≡◌, ℕ, zero, suc, ◌+◌, ◌<◌, ◌≤◌, true, false, not, cond, List, [], ◌∷◌, ◌++◌, length, map, fold, is_some, ap}
use Rattle.std.proofs.Common.{sym, ◌∙◌, subst, arith, append_assoc}
use Rattle.std.proofs.lemmas.List.{append-nil}
use Rattle.std.specs.Prelude.{nat_lt, ◌==◌, Result, Ok}
use Rattle.std.specs.Map.{keys_of}
use Rattle.std.proofs.lemmas.Bool.Decides.{nat_tests}
use Rattle.iol_types.specs.declared.key.Key.{Key}
use Rattle.iol_types.specs.declared.key.TheConstants.{DATA_STORAGE}
use Rattle.iol_types.specs.declared.data_set.TheConstants.{MOST_SET_OCTETS}
use Rattle.iol_types.specs.DataSet.{Entry, SetValue, AreEntries, add_fault}
use Rattle.iol_types.proofs.Entries.{may-stand, none-added}
use Rattle.iol_link.specs.declared.messages.Request.{Request}
use Rattle.iol_link.specs.declared.messages.Request.TheVariants.{Read}
use Rattle.iol_link.specs.declared.messages.Answer.{Answer}
use Rattle.iol_transfer.specs.List.{Listing, reading_of, first_places, kept_with}
use Rattle.iol_transfer.specs.declared.list.Next.{Next}
use Rattle.iol_transfer.specs.declared.list.Next.TheVariants as next_is
use Rattle.iol_transfer.specs.declared.list.ListFault.{ListFault}
use Rattle.iol_transfer.specs.declared.object.TheConstants.{INDEX_LIST, DATA_STORAGE_SIZE, PARAMETER_CHECKSUM}
use Rattle.iol_transfer.proofs.FirstPlaces.{first_places-more}
use Rattle.iol_transfer.specs.declared.fault.TransferFault.TheVariants as fault
use Rattle.iol_transfer.specs.declared.repeats.TheConstants.{MOST_REQUESTS}
use Rattle.iol_transfer.specs.declared.upload.TheConstants.{MOST_LISTS}
use Rattle.iol_transfer.specs.Exchanges.{Exchange, busy_times, read_of, Follows}
use Rattle.iol_transfer.specs.Upload.{number_of, AreLists, FollowsList, opening, entry_read, IsFinished}
use Rattle.iol_transfer.specs.Asked.{Asks, Start, Size, IndexList, Value, Checksum}
use Rattle.iol_transfer.specs.Machine.{Machine, Outcome, More, Whole, Fault, begun, reading, after_list, step, answered, Leads}
use Rattle.iol_transfer.proofs.Order.{upload_at}

-- ---- what a conversation leads to

abbrev on_step : Outcome → (Machine → Outcome) → (SetValue → Outcome) → Outcome
on_step (More machine) more whole = more machine
on_step (Whole set) more whole = whole set
on_step (Fault why) more whole = Fault why

abbrev ended : List Exchange → SetValue → Outcome
ended [] set = Whole set
ended (exchange ∷ more) set = Fault fault.Unexpected

abbrev talk : Machine → List Exchange → Outcome
talk machine [] = More machine
talk machine (exchange ∷ more) = on_step (step machine exchange.answer) (λ after. talk after more) (ended more)

-- a conversation that led to an upload in progress continues from there
talk-on : (conversation : List Exchange) (machine last : Machine) (exchange : Exchange) → Leads machine conversation last
    → talk machine (conversation ++ exchange ∷ []) ≡ talk last (exchange ∷ [])
talk-on [] machine last exchange leads = ap (λ m. talk m (exchange ∷ [])) leads
talk-on (first ∷ more) machine last exchange leads =
    ap (λ outcome. on_step outcome (λ after. talk after (more ++ exchange ∷ [])) (ended (more ++ exchange ∷ []))) leads.2
    ∙ talk-on more leads.1 last exchange leads.3

last-whole : (outcome : Outcome) (set : SetValue) → on_step outcome (λ after. More after) (λ whole. Whole whole) ≡ Whole set
    → outcome ≡ Whole set
last-whole (More machine) set is = cc
last-whole (Whole whole) set is = is
last-whole (Fault why) set is = cc

-- after Device busy the request is sent again
busy-talk : (times vendor device busy : ℕ) (asks : Asks) (request : Request) (rest : List Exchange) → busy + times < MOST_REQUESTS
    → talk (upload_at vendor device asks busy) (busy_times times request ++ rest) ≡ talk (upload_at vendor device asks (busy + times)) rest
busy-talk zero vendor device busy asks request rest few = ap (λ count. talk (upload_at vendor device asks count) rest) (omega arith)
busy-talk (suc times) vendor device busy asks request rest few =
    let again : nat_lt (busy + 1) MOST_REQUESTS ≡ true = grind (arith, nat_tests, few) in
    let on : talk (upload_at vendor device asks busy) (busy_times (suc times) request ++ rest)
    ≡ talk (upload_at vendor device asks (busy + 1)) (busy_times times request ++ rest) =
    ap (λ test. on_step (cond test (More (upload_at vendor device asks (busy + 1))) (Fault fault.Busy))
    (λ after. talk after (busy_times times request ++ rest)) (ended (busy_times times request ++ rest))) again in
    on ∙ busy-talk times vendor device (busy + 1) asks request rest (omega (arith, few))
    ∙ ap (λ count. talk (upload_at vendor device asks count) rest) (omega arith)

-- ---- the lists

some-lists : (index subindex : ℕ) (lists : List Exchange) (keys : List Key) → AreLists index subindex lists keys → 0 < length lists
some-lists index subindex [] keys are = absurd are
some-lists index subindex (exchange ∷ more) keys are = omega arith

-- the lists of an upload lead to the reads of their keys
lists-talk : (lists tail : List Exchange) (vendor device index subindex read : ℕ) (before listed : List Key) (conversation : List Exchange)
    → Follows conversation (lists ++ tail) → AreLists index subindex lists listed → read + length lists ≤ MOST_LISTS
    → (rest : List Exchange) × Follows rest tail
    × (talk (upload_at vendor device (IndexList index subindex read (first_places before)) 0) conversation
    ≡ talk (upload_at vendor device (reading [] (first_places (before ++ listed))) 0) rest)
lists-talk [] tail vendor device index subindex read before listed conversation follows are few = absurd are
lists-talk (exchange ∷ lists) tail vendor device index subindex read before listed conversation follows are few =
    by are.2 are.4 are.5 (λ further others low. lists-talk lists tail vendor device further 0 (read + 1)
    (before ++ are.1) others follows.1 follows.4 low)
  where
    asks : Asks
    asks = IndexList index subindex read (first_places before)

    here : (said : Result Listing ListFault) → reading_of are.0 ≡ said
        → talk (upload_at vendor device (IndexList index subindex read (first_places before)) 0) conversation
        ≡ on_step (after_list (upload_at vendor device (IndexList index subindex read (first_places before)) 0) read
        (first_places before) said) (λ after. talk after follows.1) (ended follows.1)
    here said is =
        ap (talk (upload_at vendor device (IndexList index subindex read (first_places before)) 0)) follows.3
        ∙ busy-talk follows.0 vendor device 0 (IndexList index subindex read (first_places before)) exchange.request (exchange ∷ follows.1)
        (omega (arith, follows.2))
        ∙ ap (λ (e : Exchange). on_step
        (step (upload_at vendor device (IndexList index subindex read (first_places before)) (0 + follows.0)) e.answer)
        (λ after. talk after follows.1) (ended follows.1)) are.3
        ∙ ap (λ result. on_step (after_list (upload_at vendor device (IndexList index subindex read (first_places before)) 0) read
        (first_places before) result) (λ after. talk after follows.1) (ended follows.1)) is

    by : (next : Next) → reading_of are.0 ≡ Ok (are.1, next)
        → FollowsList next ((lists ≡ []) × (listed ≡ are.1))
        (λ further. (others : List Key) × AreLists further 0 lists others × (listed ≡ are.1 ++ others))
        → ((further : ℕ) (others : List Key) → AreLists further 0 lists others → read + 1 + length lists ≤ MOST_LISTS
        → (rest : List Exchange) × Follows rest tail
        × (talk (upload_at vendor device (IndexList further 0 (read + 1) (first_places (before ++ are.1))) 0) follows.1
        ≡ talk (upload_at vendor device (reading [] (first_places ((before ++ are.1) ++ others))) 0) rest))
        → (rest : List Exchange) × Follows rest tail
        × (talk (upload_at vendor device (IndexList index subindex read (first_places before)) 0) conversation
        ≡ talk (upload_at vendor device (reading [] (first_places (before ++ listed))) 0) rest)
    by next_is.End is ends again =
        let left : Follows follows.1 tail = subst (λ l. Follows follows.1 (l ++ tail)) ends.0 follows.4 in (
          follows.1,
          left,
          here _ is ∙ ap (λ keys. talk (upload_at vendor device (reading [] keys) 0) follows.1)
              (first_places-more before are.1 ∙ ap (λ k. first_places (before ++ k)) (sym ends.1)),
        )
    by (next_is.List further) is names again =
        let some : 0 < length lists = some-lists further 0 lists names.0 names.1 in
        let low : nat_lt (read + 1) MOST_LISTS ≡ true = grind (arith, nat_tests, few, some) in
        let on = again further names.0 names.1 (omega (arith, few)) in
        let go : talk (upload_at vendor device (IndexList index subindex read (first_places before)) 0) conversation
        ≡ talk (upload_at vendor device (IndexList further 0 (read + 1) (first_places (before ++ are.1))) 0) follows.1 =
        here _ is
        ∙ ap (λ test. on_step (cond test
        (More (upload_at vendor device (IndexList further 0 (read + 1) (fold kept_with (first_places before) are.1)) 0)) (Fault fault.List))
        (λ after. talk after follows.1) (ended follows.1)) low
        ∙ ap (λ keys. talk (upload_at vendor device (IndexList further 0 (read + 1) keys) 0) follows.1)
        (first_places-more before are.1) in (
          on.0,
          on.1,
          go ∙ on.2 ∙ ap (λ keys. talk (upload_at vendor device (reading [] (first_places keys)) 0) on.0)
              (append_assoc before are.1 names.0 ∙ ap (λ keys. before ++ keys) (sym names.2)),
        )

-- ---- the values

values-talk : (entries read : List Entry) (tail : List Exchange) (vendor device : ℕ) (conversation : List Exchange)
    → Follows conversation (map entry_read entries ++ tail)
    → AreEntries (read ++ entries)
    → (rest : List Exchange) × Follows rest tail
    × (talk (upload_at vendor device (reading read (keys_of entries)) 0) conversation
    ≡ talk (upload_at vendor device (Checksum (read ++ entries)) 0) rest)
values-talk [] read tail vendor device conversation follows are =
    (conversation, follows, ap (λ e. talk (upload_at vendor device (Checksum e) 0) conversation) (sym (append-nil read)))
values-talk (entry ∷ entries) read tail vendor device conversation follows are =
    let on = values-talk entries (read ++ entry ∷ []) tail vendor device follows.1 follows.4
    (subst AreEntries (sym (append_assoc read (entry ∷ []) entries)) are) in
    let free : is_some (add_fault read entry.0 entry.1)
    ≡ false = ap is_some (none-added read entry.0 entry.1 (may-stand read entry entries are).1) in
    let asks : Asks = Value read entry.0 (keys_of entries) in
    let go : talk (upload_at vendor device asks 0) conversation
    ≡ talk (upload_at vendor device (reading (read ++ entry ∷ []) (keys_of entries)) 0) follows.1 =
    ap (talk (upload_at vendor device asks 0)) follows.3
    ∙ busy-talk follows.0 vendor device 0 asks (entry_read entry).request (entry_read entry ∷ follows.1) (omega (arith, follows.2))
    ∙ ap (λ test. on_step (cond test (Fault fault.Size)
    (More (upload_at vendor device (reading (read ++ (entry.0, entry.1) ∷ []) (keys_of entries)) 0))) (λ after. talk after follows.1)
    (ended follows.1)) free in
    (on.0, on.1, go ∙ on.2 ∙ ap (λ e. talk (upload_at vendor device (Checksum e) 0) on.0) (append_assoc read (entry ∷ []) entries))

-- ---- a whole conversation

finished-talk : (vendor device : ℕ) (conversation : List Exchange) (set : SetValue) → IsFinished vendor device conversation set
    → talk (begun vendor device) conversation ≡ Whole set
finished-talk vendor device conversation set finished =
    let upload = finished.upload in
    let checksum = read_of DATA_STORAGE PARAMETER_CHECKSUM upload.checksum in
    let size = read_of DATA_STORAGE DATA_STORAGE_SIZE upload.size in
    let tail : List Exchange = map entry_read set.entries ++ checksum ∷ [] in
    let order : finished.settled ≡ opening upload.size (upload.lists ++ tail) =
    upload.order ∙ ap (λ rest. opening upload.size rest) (append_assoc upload.lists (map entry_read set.entries) (checksum ∷ [])) in
    let follows : Follows conversation (opening upload.size (upload.lists ++ tail)) = subst (Follows conversation) order finished.follows in
    let begins : talk (begun vendor device) conversation ≡ talk (upload_at vendor device Size 0) follows.1 =
    ap (talk (begun vendor device)) follows.3 ∙ busy-talk follows.0 vendor device 0 Start _ _ (omega (arith, follows.2)) in
    let sized = follows.4 in
    let four : not (length upload.size == 4) ≡ false = grind (arith, nat_tests, upload.declared.four) in
    let fits : nat_lt MOST_SET_OCTETS (number_of upload.size) ≡ false = grind (arith, nat_tests, upload.declared.fits) in
    let sizes : talk (upload_at vendor device Size 0) follows.1
    ≡ talk (upload_at vendor device (IndexList DATA_STORAGE INDEX_LIST 0 []) 0) sized.1 =
    ap (talk (upload_at vendor device Size 0)) sized.3 ∙ busy-talk sized.0 vendor device 0 Size _ _ (omega (arith, sized.2))
    ∙ ap (λ test. on_step (cond test (Fault fault.Unexpected)
    (cond (nat_lt MOST_SET_OCTETS (number_of upload.size)) (Fault fault.Size)
    (More (upload_at vendor device (IndexList DATA_STORAGE INDEX_LIST 0 []) 0)))) (λ after. talk after sized.1) (ended sized.1)) four
    ∙ ap (λ test. on_step (cond test (Fault fault.Size) (More (upload_at vendor device (IndexList DATA_STORAGE INDEX_LIST 0 []) 0)))
    (λ after. talk after sized.1) (ended sized.1)) fits in
    let lists = lists-talk upload.lists tail vendor device DATA_STORAGE INDEX_LIST 0 [] upload.listed sized.1 sized.4 upload.chain
    (omega (arith, upload.few)) in
    let keyed : talk (upload_at vendor device (reading [] (first_places upload.listed)) 0) lists.0
    ≡ talk (upload_at vendor device (reading [] (keys_of set.entries)) 0) lists.0 =
    ap (λ keys. talk (upload_at vendor device (reading [] keys) 0) lists.0) (sym upload.keys) in
    let values = values-talk set.entries [] (checksum ∷ []) vendor device lists.0 lists.1 upload.set_is.entries in
    let last = values.1 in
    let read : SetValue = record { entries = set.entries; vendor = vendor; device = device; checksum = number_of upload.checksum } in
    let right : (length upload.checksum == 4) ≡ true = grind (arith, nat_tests, upload.four) in
    let ends : talk (upload_at vendor device (Checksum set.entries) 0) values.0 ≡ Whole read =
    ap (talk (upload_at vendor device (Checksum set.entries) 0)) last.3
    ∙ busy-talk last.0 vendor device 0 (Checksum set.entries) (Read DATA_STORAGE PARAMETER_CHECKSUM) (checksum ∷ last.1)
    (omega (arith, last.2))
    ∙ ap (λ test. on_step (cond test (Whole read) (Fault fault.Unexpected)) (λ after. talk after last.1) (ended last.1)) right
    ∙ ap (λ rest. ended rest read) last.4 in
    let is : read ≡ set = λ j. record {
      entries = set.entries;
      vendor = sym finished.vendor_is j;
      device = sym finished.device_is j;
      checksum = sym upload.sum j;
    } in
    begins ∙ sizes ∙ lists.2 ∙ keyed ∙ values.2 ∙ ends ∙ ap Whole is

-- if the exchanges since an upload began are known, and the next one finishes an upload of a set, it makes the
-- upload whole
pub finished-whole : (vendor device : ℕ) (conversation : List Exchange) (machine : Machine) (answer : Answer) (set : SetValue)
    → Leads (begun vendor device) conversation machine → IsFinished vendor device (conversation ++ answered machine answer ∷ []) set
    → step machine answer ≡ Whole set
finished-whole vendor device conversation machine answer set leads finished =
    let exchange = answered machine answer in
    last-whole (step machine answer) set (sym (talk-on conversation (begun vendor device) machine exchange leads)
    ∙ finished-talk vendor device (conversation ++ exchange ∷ []) set finished)
