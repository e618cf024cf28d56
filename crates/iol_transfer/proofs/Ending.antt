-- If an answer ends an upload with a whole set, the exchanges are a finished upload of that set.
use Rattle.std.proofs.Common.{◌≡◌, ℕ, ◌+◌, Bool, true, false, not, cond, List, [], ◌∷◌, ◌++◌, length, is_some, refl, ap, sym, ◌∙◌, subst}
use Rattle.std.proofs.Common.{arith}
use Rattle.std.proofs.lemmas.List.{append-nil}
use Rattle.std.specs.Prelude.{nat_lt, ◌==◌, Result, Ok, Err}
use Rattle.std.specs.Map.{keys_of}
use Rattle.std.proofs.lemmas.Bool.Decides.{nat_tests}
use Rattle.iol_types.specs.declared.key.Key.{Key}
use Rattle.iol_types.specs.declared.key.TheConstants.{DATA_STORAGE}
use Rattle.iol_types.specs.declared.data_set.TheConstants.{MOST_SET_OCTETS}
use Rattle.iol_types.specs.DataSet.{Entry, SetValue, IsSet, add_fault}
use Rattle.iol_link.specs.declared.messages.Request.TheVariants.{Read}
use Rattle.iol_link.specs.declared.messages.Answer.{Answer}
use Rattle.iol_link.specs.declared.messages.Answer.TheVariants.{ReadOk, ReadFault, WriteOk, WriteFault, Busy}
use Rattle.iol_transfer.specs.List.{Listing, reading_of}
use Rattle.iol_transfer.specs.declared.list.Next.TheVariants as next_is
use Rattle.iol_transfer.specs.declared.list.ListFault.{ListFault}
use Rattle.iol_transfer.specs.declared.object.TheConstants.{PARAMETER_CHECKSUM}
use Rattle.iol_transfer.specs.declared.fault.TransferFault.{TransferFault}
use Rattle.iol_transfer.specs.declared.fault.TransferFault.TheVariants as fault
use Rattle.iol_transfer.specs.declared.repeats.TheConstants.{MOST_REQUESTS}
use Rattle.iol_transfer.specs.declared.upload.TheConstants.{MOST_LISTS}
use Rattle.iol_transfer.specs.Exchanges.{Exchange, busy_times, read_of, Follows}
use Rattle.iol_transfer.specs.Upload.{number_of, IsFinished}
use Rattle.iol_transfer.specs.Asked.{Asks, Start, Size, IndexList, Value, Checksum, IsAsking, is_write}
use Rattle.iol_transfer.specs.Machine.{Machine, More, Whole, Fault, begun, after_list, after_refusal, step, answered, Leads}
use Rattle.iol_transfer.proofs.Order.{upload_at, with_answer, follows-more}
use Rattle.iol_transfer.proofs.GoingOn.{under-way}

-- ---- outcomes that are not whole

goes-not-whole : (test : Bool) (after : Machine) (set : SetValue) (why : TransferFault) → cond test (More after) (Fault why) ≡ Whole set → ⊥
goes-not-whole true after set why is = cc
goes-not-whole false after set why is = cc

fault-not-whole : (test : Bool) (after : Machine) (set : SetValue) (why : TransferFault) → cond test (Fault why) (More after) ≡ Whole set
    → ⊥
fault-not-whole true after set why is = cc
fault-not-whole false after set why is = cc

refusal-not-whole : (right : Bool) (error additional : ℕ) (set : SetValue) → after_refusal right error additional ≡ Whole set → ⊥
refusal-not-whole true error additional set is = cc
refusal-not-whole false error additional set is = cc

size-not-whole : (four large : Bool) (after : Machine) (set : SetValue)
    → cond four (Fault fault.Unexpected) (cond large (Fault fault.Size) (More after)) ≡ Whole set → ⊥
size-not-whole true large after set is = cc
size-not-whole false true after set is = cc
size-not-whole false false after set is = cc

list-not-whole : (machine : Machine) (lists : ℕ) (keys : List Key) (said : Result Listing ListFault) (set : SetValue)
    → after_list machine lists keys said ≡ Whole set → ⊥
list-not-whole machine lists keys (Err why) set is = cc
list-not-whole machine lists keys (Ok (listed, next_is.End)) set is = cc
list-not-whole machine lists keys (Ok (listed, next_is.List further)) set is =
    goes-not-whole (nat_lt (lists + 1) MOST_LISTS) _ set fault.List is

whole-first : (test : Bool) (one set : SetValue) (why : TransferFault) → cond test (Whole one) (Fault why) ≡ Whole set
    → (test ≡ true) × (one ≡ set)
whole-first true one set why is = (refl, cc)
whole-first false one set why is = cc

-- ---- the checksum is read

-- the exchanges of an upload that asked for the checksum, and was answered with four octets
checksum-finishes : (vendor device busy : ℕ) (entries : List Entry) (octets : List ℕ) (conversation : List Exchange)
    → IsAsking conversation (Checksum entries) busy
    → length octets ≡ 4 → IsSet (record { entries = entries; vendor = vendor; device = device; checksum = number_of octets })
    → IsFinished vendor device (conversation ++ read_of DATA_STORAGE PARAMETER_CHECKSUM octets ∷ [])
    (record { entries = entries; vendor = vendor; device = device; checksum = number_of octets })
checksum-finishes vendor device busy entries octets conversation asking four set =
    let exchange = read_of DATA_STORAGE PARAMETER_CHECKSUM octets in
    let has = asking.asked in
    let same : asking.before ++ busy_times busy (Read DATA_STORAGE PARAMETER_CHECKSUM) ++ exchange ∷ [] ≡ conversation ++ exchange ∷ [] =
    ap (λ c. c ++ exchange ∷ []) (sym asking.is) in
    record {
      settled = asking.settled ++ exchange ∷ [];
      follows = subst (λ c. Follows c (asking.settled ++ exchange ∷ [])) same
          (follows-more asking.before asking.settled busy exchange asking.follows asking.few);
      upload = record {
        size = has.size;
        lists = has.lists;
        listed = has.listed;
        checksum = octets;
        order = ap (λ s. s ++ exchange ∷ []) has.order;
        declared = has.declared;
        chain = has.chain;
        few = has.few;
        keys = sym (append-nil (keys_of entries)) ∙ has.keys;
        four = four;
        sum = refl;
        set_is = set;
      };
      vendor_is = refl;
      device_is = refl;
    }

-- an answer after which an upload is whole
ends-whole : (vendor device busy : ℕ) (asks : Asks) (answer : Answer) (conversation : List Exchange) (set : SetValue)
    → IsAsking conversation asks busy
    → step (upload_at vendor device asks busy) answer ≡ Whole set → IsSet set
    → IsFinished vendor device (conversation ++ with_answer asks answer ∷ []) set
ends-whole vendor device busy asks Busy conversation set asking is good =
    absurd (goes-not-whole (nat_lt (busy + 1) MOST_REQUESTS) _ set fault.Busy is)
ends-whole vendor device busy Start WriteOk conversation set asking is good = cc
ends-whole vendor device busy Size WriteOk conversation set asking is good = cc
ends-whole vendor device busy (IndexList index subindex lists keys) WriteOk conversation set asking is good = cc
ends-whole vendor device busy (Value entries key behind) WriteOk conversation set asking is good = cc
ends-whole vendor device busy (Checksum entries) WriteOk conversation set asking is good = cc
ends-whole vendor device busy asks (ReadFault error additional) conversation set asking is good =
    absurd (refusal-not-whole (not (is_write asks)) error additional set is)
ends-whole vendor device busy asks (WriteFault error additional) conversation set asking is good =
    absurd (refusal-not-whole (is_write asks) error additional set is)
ends-whole vendor device busy Start (ReadOk values) conversation set asking is good = cc
ends-whole vendor device busy Size (ReadOk values) conversation set asking is good =
    absurd (size-not-whole (not (length values.items == 4)) (nat_lt MOST_SET_OCTETS (number_of values.items)) _ set is)
ends-whole vendor device busy (IndexList index subindex lists keys) (ReadOk values) conversation set asking is good =
    absurd (list-not-whole (upload_at vendor device (IndexList index subindex lists keys) busy) lists keys (reading_of values.items) set is)
ends-whole vendor device busy (Value entries key behind) (ReadOk values) conversation set asking is good =
    absurd (fault-not-whole (is_some (add_fault entries key values.items)) _ set fault.Size is)
ends-whole vendor device busy (Checksum entries) (ReadOk values) conversation set asking is good =
    let chosen = whole-first (length values.items == 4) _ set fault.Unexpected is in
    let four : length values.items ≡ 4 = grind (arith, nat_tests, chosen.0) in
    subst (IsFinished vendor device (conversation ++ read_of DATA_STORAGE PARAMETER_CHECKSUM values.items ∷ [])) chosen.1
    (checksum-finishes vendor device busy entries values.items conversation asking four (subst IsSet (sym chosen.1) good))

-- if the exchanges since an upload began are known, an answer after which it is whole finishes it
pub whole-finished : (vendor device : ℕ) (conversation : List Exchange) (machine : Machine) (answer : Answer) (set : SetValue)
    → Leads (begun vendor device) conversation machine → step machine answer ≡ Whole set → IsSet set
    → IsFinished vendor device (conversation ++ answered machine answer ∷ []) set
whole-finished vendor device conversation machine answer set leads is good =
    let way = under-way vendor device conversation machine leads in
    let finished : IsFinished machine.vendor machine.device (conversation ++ answered machine answer ∷ []) set =
    ends-whole machine.vendor machine.device machine.busy machine.asks answer conversation set way.asking is good in
    subst (λ v. IsFinished v device (conversation ++ answered machine answer ∷ []) set) way.vendor_is
    (subst (λ d. IsFinished machine.vendor d (conversation ++ answered machine answer ∷ []) set) way.device_is finished)
