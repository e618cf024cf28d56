-- Each answer with which an upload continues follows the order, so its next request depends on the exchanges alone.
use Rattle.std.proofs.Common.{◌≡◌, ℕ, ◌+◌, Bool, true, false, not, cond, List, [], ◌∷◌, ◌++◌, length, fold, Option, Some, None, is_some}
use Rattle.std.proofs.Common.{refl, ap, sym, ◌∙◌, subst, arith, append_assoc, lit<}
use Rattle.std.proofs.lemmas.List.{append-nil, replicate_more}
use Rattle.std.specs.Prelude.{nat_lt, ◌==◌, Result, Ok, Err}
use borrow.Author.Tests.{ltb-true, ltb-false}
use Rattle.std.proofs.lemmas.Bool.Decides.{nat_tests}
use Rattle.iol_types.specs.declared.key.Key.{Key}
use Rattle.iol_types.specs.declared.key.TheConstants.{DATA_STORAGE}
use Rattle.iol_types.specs.declared.data_set.TheConstants.{MOST_SET_OCTETS}
use Rattle.iol_types.specs.DataSet.{Entry, SetValue, add_fault}
use Rattle.iol_link.specs.declared.messages.Answer.{Answer}
use Rattle.iol_link.specs.declared.messages.Answer.TheVariants.{ReadOk, ReadFault, WriteOk, WriteFault, Busy}
use Rattle.iol_transfer.specs.List.{Listing, reading_of, kept_with}
use Rattle.iol_transfer.specs.declared.list.Next.TheVariants as next_is
use Rattle.iol_transfer.specs.declared.list.ListFault.{ListFault}
use Rattle.iol_transfer.specs.declared.object.TheConstants.{INDEX_LIST}
use Rattle.iol_transfer.specs.declared.fault.TransferFault.{TransferFault}
use Rattle.iol_transfer.specs.declared.fault.TransferFault.TheVariants as fault
use Rattle.iol_transfer.specs.declared.repeats.TheConstants.{MOST_REQUESTS}
use Rattle.iol_transfer.specs.declared.upload.TheConstants.{MOST_LISTS}
use Rattle.iol_transfer.specs.Exchanges.{Exchange, busy_times}
use Rattle.iol_transfer.specs.Upload.{IsSize, number_of}
use Rattle.iol_transfer.specs.Asked.{Asks, Start, Size, IndexList, Value, Checksum, request_of, IsAskedAfter, IsAsking, is_write}
use Rattle.iol_transfer.specs.Machine.{Machine, Outcome, More, Whole, Fault, begun, reading, after_size, after_list, after_value}
use Rattle.iol_transfer.specs.Machine.{after_refusal, step, answered, Leads}
use Rattle.iol_transfer.proofs.Order.{upload_at, with_answer, asked-reading, advance, size-read, list-ends, list-further, value-read}

-- ---- outcomes that are not a fault

-- if one of two outcomes is a fault, a result that continues is the other one
more-first : (test : Bool) (one : Outcome) (after : Machine) (why : TransferFault) → cond test one (Fault why) ≡ More after
    → (test ≡ true) × (one ≡ More after)
more-first true one after why is = (refl, is)
more-first false one after why is = cc

more-second : (test : Bool) (two : Outcome) (after : Machine) (why : TransferFault) → cond test (Fault why) two ≡ More after
    → (test ≡ false) × (two ≡ More after)
more-second true two after why is = cc
more-second false two after why is = (refl, is)

refusal-ends : (right : Bool) (error additional : ℕ) (after : Machine) → after_refusal right error additional ≡ More after → ⊥
refusal-ends true error additional after is = cc
refusal-ends false error additional after is = cc

same-machine : (one two : Machine) → More one ≡ More two → one ≡ two
same-machine one two is = cc

none-of : {A : Type 0} (o : Option A) → is_some o ≡ false → o ≡ None
none-of None h = refl
none-of (Some x) h = cc

-- ---- one answer

-- an upload continues with the next request
goes : (vendor device busy : ℕ) (asks next : Asks) (answer : Answer) (conversation : List Exchange) (after : Machine)
    → IsAsking conversation asks busy
    → upload_at vendor device next 0 ≡ after
    → ((settled : List Exchange) → IsAskedAfter settled asks → IsAskedAfter (settled ++ with_answer asks answer ∷ []) next)
    → IsAsking (conversation ++ with_answer asks answer ∷ []) after.asks after.busy
goes vendor device busy asks next answer conversation after asking is leads =
    subst (λ (machine : Machine). IsAsking (conversation ++ with_answer asks answer ∷ []) machine.asks machine.busy) is
    (advance asks next busy answer conversation asking leads)

-- a request is sent again
goes-busy : (vendor device busy : ℕ) (asks : Asks) (conversation : List Exchange) (after : Machine) → IsAsking conversation asks busy
    → step (upload_at vendor device asks busy) Busy ≡ More after
    → IsAsking (conversation ++ with_answer asks Busy ∷ []) after.asks after.busy
goes-busy vendor device busy asks conversation after asking is =
    let chosen = more-first (nat_lt (busy + 1) MOST_REQUESTS) _ after fault.Busy is in
    let exchange = with_answer asks Busy in
    let here : IsAsking (conversation ++ exchange ∷ []) asks (busy + 1) = record {
      settled = asking.settled;
      before = asking.before;
      is =
          ap (λ c. c ++ exchange ∷ []) asking.is ∙ append_assoc asking.before (busy_times busy (request_of asks)) (exchange ∷ [])
          ∙ ap (λ c. asking.before ++ c) (replicate_more busy exchange);
      few = ltb-true _ _ chosen.0;
      follows = asking.follows;
      asked = asking.asked;
    } in
    subst (λ (machine : Machine). IsAsking (conversation ++ exchange ∷ []) machine.asks machine.busy) (same-machine _ _ chosen.1) here

-- the declared size is read
goes-size : (vendor device busy : ℕ) (octets : List ℕ) (conversation : List Exchange) (after : Machine) → IsAsking conversation Size busy
    → after_size (upload_at vendor device Size busy) octets ≡ More after
    → IsAsking (conversation ++ with_answer Size (ReadOk (record { items = octets })) ∷ []) after.asks after.busy
goes-size vendor device busy octets conversation after asking is =
    let four = more-second (not (length octets == 4)) _ after fault.Unexpected is in
    let fits = more-second (nat_lt MOST_SET_OCTETS (number_of octets)) _ after fault.Size four.1 in
    let size : IsSize octets = record { four = grind (arith, nat_tests, four.0); fits = ltb-false _ _ fits.0 } in
    goes vendor device busy Size (IndexList DATA_STORAGE INDEX_LIST 0 []) (ReadOk (record { items = octets })) conversation after asking
    (same-machine _ _ fits.1) (size-read octets size)

-- a list is read
goes-list : (vendor device busy index subindex lists : ℕ) (keys : List Key) (octets : List ℕ) (conversation : List Exchange)
    (after : Machine)
    → (said : Result Listing ListFault) → reading_of octets ≡ said → IsAsking conversation (IndexList index subindex lists keys) busy
    → after_list (upload_at vendor device (IndexList index subindex lists keys) busy) lists keys said ≡ More after
    → IsAsking (conversation ++ with_answer (IndexList index subindex lists keys)
    (ReadOk (record { items = octets })) ∷ []) after.asks after.busy
goes-list vendor device busy index subindex lists keys octets conversation after (Err why) read asking is = cc
goes-list vendor device busy index subindex lists keys octets conversation after (Ok (listed, next_is.End)) read asking is =
    goes vendor device busy (IndexList index subindex lists keys) (reading [] (fold kept_with keys listed))
    (ReadOk (record { items = octets })) conversation after
    asking (same-machine _ _ is)
    (λ settled has. asked-reading [] (fold kept_with keys listed) _ (list-ends index subindex lists keys octets listed read settled has))
goes-list vendor device busy index subindex lists keys octets conversation after (Ok (listed, next_is.List further)) read asking is =
    let chosen = more-first (nat_lt (lists + 1) MOST_LISTS) _ after fault.List is in
    goes vendor device busy (IndexList index subindex lists keys) (IndexList further 0 (lists + 1) (fold kept_with keys listed))
    (ReadOk (record { items = octets }))
    conversation after asking (same-machine _ _ chosen.1)
    (list-further index subindex lists keys octets listed further read (ltb-true _ _ chosen.0))

-- a value is read
goes-value : (vendor device busy : ℕ) (entries : List Entry) (key : Key) (behind : List Key) (octets : List ℕ)
    (conversation : List Exchange) (after : Machine)
    → IsAsking conversation (Value entries key behind) busy
    → after_value (upload_at vendor device (Value entries key behind) busy) entries key behind octets ≡ More after
    → IsAsking (conversation ++ with_answer (Value entries key behind) (ReadOk (record { items = octets })) ∷ []) after.asks after.busy
goes-value vendor device busy entries key behind octets conversation after asking is =
    let chosen = more-second (is_some (add_fault entries key octets)) _ after fault.Size is in
    goes vendor device busy (Value entries key behind) (reading (entries ++ (key, octets) ∷ []) behind)
    (ReadOk (record { items = octets })) conversation after
    asking (same-machine _ _ chosen.1)
    (λ settled has. asked-reading (entries ++ (key, octets) ∷ []) behind _ (value-read entries key behind octets settled has))

checksum-ends : (test : Bool) (set : SetValue) (after : Machine) → cond test (Whole set) (Fault fault.Unexpected) ≡ More after → ⊥
checksum-ends true set after is = cc
checksum-ends false set after is = cc

-- each answer with which an upload continues
goes-on : (vendor device busy : ℕ) (asks : Asks) (answer : Answer) (conversation : List Exchange) (after : Machine)
    → IsAsking conversation asks busy
    → step (upload_at vendor device asks busy) answer ≡ More after
    → IsAsking (conversation ++ with_answer asks answer ∷ []) after.asks after.busy
goes-on vendor device busy asks Busy conversation after asking is = goes-busy vendor device busy asks conversation after asking is
goes-on vendor device busy Start WriteOk conversation after asking is =
    goes vendor device busy Start Size WriteOk conversation after asking (same-machine _ _ is)
    (λ settled none. ap (λ s. s ++ with_answer Start WriteOk ∷ []) none)
goes-on vendor device busy Size WriteOk conversation after asking is = cc
goes-on vendor device busy (IndexList index subindex lists keys) WriteOk conversation after asking is = cc
goes-on vendor device busy (Value entries key behind) WriteOk conversation after asking is = cc
goes-on vendor device busy (Checksum entries) WriteOk conversation after asking is = cc
goes-on vendor device busy asks (ReadFault error additional) conversation after asking is =
    absurd (refusal-ends (not (is_write asks)) error additional after is)
goes-on vendor device busy asks (WriteFault error additional) conversation after asking is =
    absurd (refusal-ends (is_write asks) error additional after is)
goes-on vendor device busy Start (ReadOk values) conversation after asking is = cc
goes-on vendor device busy Size (ReadOk values) conversation after asking is =
    goes-size vendor device busy values.items conversation after asking is
goes-on vendor device busy (IndexList index subindex lists keys) (ReadOk values) conversation after asking is =
    goes-list vendor device busy index subindex lists keys values.items conversation after (reading_of values.items) refl asking is
goes-on vendor device busy (Value entries key behind) (ReadOk values) conversation after asking is =
    goes-value vendor device busy entries key behind values.items conversation after asking is
goes-on vendor device busy (Checksum entries) (ReadOk values) conversation after asking is =
    absurd (checksum-ends (length values.items == 4) _ after is)

-- ---- the numbers of the device stay

abbrev Keeps : ℕ → ℕ → Outcome → Type 0
Keeps vendor device (More after) = (after.vendor ≡ vendor) × (after.device ≡ device)
Keeps vendor device (Whole set) = Unit {0}
Keeps vendor device (Fault why) = Unit {0}

keeps-first : (vendor device : ℕ) (test : Bool) (one : Outcome) (why : TransferFault) → Keeps vendor device one
    → Keeps vendor device (cond test one (Fault why))
keeps-first vendor device true one why keeps = keeps
keeps-first vendor device false one why keeps = tt

keeps-second : (vendor device : ℕ) (test : Bool) (two : Outcome) (why : TransferFault) → Keeps vendor device two
    → Keeps vendor device (cond test (Fault why) two)
keeps-second vendor device true two why keeps = tt
keeps-second vendor device false two why keeps = keeps

refusal-keeps : (vendor device : ℕ) (right : Bool) (error additional : ℕ) → Keeps vendor device (after_refusal right error additional)
refusal-keeps vendor device true error additional = tt
refusal-keeps vendor device false error additional = tt

list-keeps : (vendor device busy : ℕ) (asks : Asks) (lists : ℕ) (keys : List Key) (said : Result Listing ListFault)
    → Keeps vendor device (after_list (upload_at vendor device asks busy) lists keys said)
list-keeps vendor device busy asks lists keys (Err why) = tt
list-keeps vendor device busy asks lists keys (Ok (listed, next_is.End)) = (refl, refl)
list-keeps vendor device busy asks lists keys (Ok (listed, next_is.List further)) =
    keeps-first vendor device (nat_lt (lists + 1) MOST_LISTS) _ fault.List (refl, refl)

step-keeps : (vendor device busy : ℕ) (asks : Asks) (answer : Answer)
    → Keeps vendor device (step (upload_at vendor device asks busy) answer)
step-keeps vendor device busy asks Busy = keeps-first vendor device (nat_lt (busy + 1) MOST_REQUESTS) _ fault.Busy (refl, refl)
step-keeps vendor device busy Start WriteOk = (refl, refl)
step-keeps vendor device busy Size WriteOk = tt
step-keeps vendor device busy (IndexList index subindex lists keys) WriteOk = tt
step-keeps vendor device busy (Value entries key behind) WriteOk = tt
step-keeps vendor device busy (Checksum entries) WriteOk = tt
step-keeps vendor device busy asks (ReadFault error additional) = refusal-keeps vendor device (not (is_write asks)) error additional
step-keeps vendor device busy asks (WriteFault error additional) = refusal-keeps vendor device (is_write asks) error additional
step-keeps vendor device busy Start (ReadOk values) = tt
step-keeps vendor device busy Size (ReadOk values) =
    keeps-second vendor device (not (length values.items == 4)) _ fault.Unexpected
    (keeps-second vendor device (nat_lt MOST_SET_OCTETS (number_of values.items)) _ fault.Size (refl, refl))
step-keeps vendor device busy (IndexList index subindex lists keys) (ReadOk values) =
    list-keeps vendor device busy (IndexList index subindex lists keys) lists keys (reading_of values.items)
step-keeps vendor device busy (Value entries key behind) (ReadOk values) =
    keeps-second vendor device (is_some (add_fault entries key values.items)) _ fault.Size (refl, refl)
step-keeps vendor device busy (Checksum entries) (ReadOk values) = by (length values.items == 4)
  where
    by : (test : Bool)
        → Keeps vendor device (cond test
        (Whole (record { entries = entries; vendor = vendor; device = device; checksum = number_of values.items }))
        (Fault fault.Unexpected))
    by true = tt
    by false = tt

kept-by : (vendor device : ℕ) (outcome : Outcome) (after : Machine) → outcome ≡ More after → Keeps vendor device outcome
    → (after.vendor ≡ vendor) × (after.device ≡ device)
kept-by vendor device outcome after is keeps = subst (Keeps vendor device) is keeps

-- ---- whole conversations

-- an upload in progress has the numbers of its device, and its next request is determined by its exchanges
pub record IsUnderWay (vendor device : ℕ) (conversation : List Exchange) (machine : Machine) : Type 0 where
  pub asking : IsAsking conversation machine.asks machine.busy
  pub vendor_is : machine.vendor ≡ vendor
  pub device_is : machine.device ≡ device

under-way-on : (vendor device : ℕ) (more : List Exchange) (machine last : Machine) (conversation : List Exchange)
    → IsUnderWay vendor device conversation machine → Leads machine more last → IsUnderWay vendor device (conversation ++ more) last
under-way-on vendor device [] machine last conversation way leads =
    subst (λ c. IsUnderWay vendor device c last) (sym (append-nil conversation)) (subst (IsUnderWay vendor device conversation) leads way)
under-way-on vendor device (exchange ∷ more) machine last conversation way leads =
    let same : answered machine exchange.answer
    ≡ exchange = ap (λ request. record { request = request; answer = exchange.answer }) (sym leads.0) in
    let asking : IsAsking (conversation ++ exchange ∷ []) leads.1.asks leads.1.busy =
    subst (λ e. IsAsking (conversation ++ e ∷ []) leads.1.asks leads.1.busy) same
    (goes-on machine.vendor machine.device machine.busy machine.asks exchange.answer conversation leads.1 way.asking leads.2) in
    let kept = kept-by machine.vendor machine.device (step machine exchange.answer) leads.1 leads.2
    (step-keeps machine.vendor machine.device machine.busy machine.asks exchange.answer) in
    let on : IsUnderWay vendor device
    (conversation ++ exchange ∷ []) leads.1 = record {
      asking = asking;
      vendor_is = kept.0 ∙ way.vendor_is;
      device_is = kept.1
          ∙ way.device_is;
    } in
    subst (λ c. IsUnderWay vendor device c last) (append_assoc conversation (exchange ∷ []) more)
    (under-way-on vendor device more leads.1 last (conversation ++ exchange ∷ []) on leads.3)

-- the exchanges since an upload began determine its next request
pub under-way : (vendor device : ℕ) (conversation : List Exchange) (machine : Machine) → Leads (begun vendor device) conversation machine
    → IsUnderWay vendor device conversation machine
under-way vendor device conversation machine leads = under-way-on vendor device conversation (begun vendor device) machine [] (record {
  asking = record { settled = []; before = []; is = refl; few = lit< tt; follows = refl; asked = refl };
  vendor_is = refl;
  device_is = refl;
}) leads
