-- What an upload asks for next, given the answers so far, and why it ends in a fault.
use Rattle.std.specs.Prelude.{◌≡◌, ◌≢◌, ℕ, ◌+◌, ◌<◌, ◌≤◌, ◌⊎◌, Bool, true, false, List, [], ◌∷◌, ◌++◌, length, map, Ok, Err, IsTrue}
use Rattle.std.specs.Map.{keys_of}
use Rattle.iol_types.specs.DataSet.{Entry, octets_of}
use Rattle.iol_types.specs.declared.key.Key.{Key}
use Rattle.iol_types.specs.declared.key.TheConstants.{DATA_STORAGE}
use Rattle.iol_types.specs.declared.data_set.TheConstants.{MOST_ENTRY_OCTETS, MOST_SET_OCTETS, ENTRY_HEAD_OCTETS}
use Rattle.iol_link.specs.declared.messages.Request.{Request}
use Rattle.iol_link.specs.declared.messages.Request.TheVariants.{Read}
use Rattle.iol_link.specs.declared.messages.Answer.{Answer}
use Rattle.iol_link.specs.declared.messages.Answer.TheVariants.{ReadOk, ReadFault, WriteOk, WriteFault, Busy}
use Rattle.iol_transfer.specs.List.{reading_of, first_places, begins_with_key}
use Rattle.iol_transfer.specs.declared.command.DsCommand.TheVariants.{UploadStart}
use Rattle.iol_transfer.specs.declared.list.Next.TheVariants as next
use Rattle.iol_transfer.specs.declared.list.ListFault.{ListFault}
use Rattle.iol_transfer.specs.declared.object.TheConstants.{DATA_STORAGE_SIZE, PARAMETER_CHECKSUM, INDEX_LIST}
use Rattle.iol_transfer.specs.Command.{commanded}
use Rattle.iol_transfer.specs.Exchanges.{Exchange, carried, done, read_of, busy_times, Follows}
use Rattle.iol_transfer.specs.Upload.{IsSize, number_of, AreLists, opening, entry_read}
use Rattle.iol_transfer.specs.declared.fault.TransferFault.{TransferFault}
use Rattle.iol_transfer.specs.declared.fault.TransferFault.TheVariants as fault
use Rattle.iol_transfer.specs.declared.repeats.TheConstants.{MOST_REQUESTS}
use Rattle.iol_transfer.specs.declared.upload.TheConstants.{MOST_LISTS}

-- the next request of an upload, with what it knows by then: the start; the size; a list at an address, with the number of
-- lists read and their keys; the value of a key, with the entries read and the keys after it; the checksum, with the
-- entries (own)
pub data Asks : Type 0 where
  Start : Asks
  Size : Asks
  IndexList : (index subindex lists : ℕ) (keys : List Key) → Asks
  Value : (entries : List Entry) (key : Key) (rest : List Key) → Asks
  Checksum : (entries : List Entry) → Asks

-- the request that is sent (standard, Data Storage object)
abbrev pub request_of : Asks → Request
request_of Start = commanded UploadStart
request_of Size = Read DATA_STORAGE DATA_STORAGE_SIZE
request_of (IndexList index subindex lists keys) = Read index subindex
request_of (Value entries key rest) = Read key.index key.subindex
request_of (Checksum entries) = Read DATA_STORAGE PARAMETER_CHECKSUM

-- these exchanges read lists, the first at an address and each other at the Index that the one before names; the last names
-- another address; they list these keys (standard, Data Storage object)
abbrev pub LeadsTo : ℕ → ℕ → List Exchange → ℕ → ℕ → List Key → Type 0
LeadsTo index subindex [] to_index to_subindex keys = (index ≡ to_index) × (subindex ≡ to_subindex) × (keys ≡ [])
LeadsTo index subindex (exchange ∷ more) to_index to_subindex keys =
    (octets : List ℕ) × (listed : List Key) × (further : ℕ) × (others : List Key)
    × (exchange ≡ read_of index subindex octets) × (reading_of octets ≡ Ok (listed, next.List further))
    × LeadsTo further 0 more to_index to_subindex others × (keys ≡ listed ++ others)

-- an upload has settled these exchanges: this number of lists, fewer than 16, which lead to this address, with these keys
-- (own)
pub record HasListed (index subindex lists : ℕ) (keys : List Key) (settled : List Exchange) : Type 0 where
  pub size : List ℕ
  pub reads : List Exchange
  pub listed : List Key
  pub order : settled ≡ opening size reads
  pub declared : IsSize size
  pub chain : LeadsTo DATA_STORAGE INDEX_LIST reads index subindex listed
  pub count : length reads ≡ lists
  pub few : lists < MOST_LISTS
  pub keys_are : keys ≡ first_places listed

-- an upload has settled these exchanges: all lists, and the reads of these entries; these keys are left (own)
pub record HasRead (entries : List Entry) (left : List Key) (settled : List Exchange) : Type 0 where
  pub size : List ℕ
  pub lists : List Exchange
  pub listed : List Key
  pub order : settled ≡ opening size lists ++ map entry_read entries
  pub declared : IsSize size
  pub chain : AreLists DATA_STORAGE INDEX_LIST lists listed
  pub few : length lists ≤ MOST_LISTS
  pub keys : keys_of entries ++ left ≡ first_places listed

-- after these settled exchanges an upload asks for this: the order of an upload, step by step
-- (standard, Data Storage object)
abbrev pub IsAskedAfter : List Exchange → Asks → Type 0
IsAskedAfter settled Start = settled ≡ []
IsAskedAfter settled Size = settled ≡ done (commanded UploadStart) ∷ []
IsAskedAfter settled (IndexList index subindex lists keys) = HasListed index subindex lists keys settled
IsAskedAfter settled (Value entries key rest) = HasRead entries (key ∷ rest) settled
IsAskedAfter settled (Checksum entries) = HasRead entries [] settled

-- after this conversation an upload asks for this, and was answered Device busy `busy` times in a row, fewer than 16 (own)
pub record IsAsking (conversation : List Exchange) (asks : Asks) (busy : ℕ) : Type 0 where
  pub settled : List Exchange
  pub before : List Exchange
  pub is : conversation ≡ before ++ busy_times busy (request_of asks)
  pub few : busy < MOST_REQUESTS
  pub follows : Follows before settled
  pub asked : IsAskedAfter settled asks

-- after this conversation an upload sends this request next (own)
pub record IsNext (conversation : List Exchange) (request : Request) : Type 0 where
  pub asks : Asks
  pub busy : ℕ
  pub asking : IsAsking conversation asks busy
  pub request_is : request ≡ request_of asks

-- the next request of an upload is a write (own)
abbrev pub is_write : Asks → Bool
is_write Start = true
is_write _ = false

-- the request is answered by four octets (own)
abbrev pub asks_number : Asks → Bool
asks_number Size = true
asks_number (Checksum entries) = true
asks_number _ = false

-- the answer (-) to the request, with these codes (standard, ISDU)
abbrev pub refusal : Bool → ℕ → ℕ → Answer
refusal true error additional = WriteFault error additional
refusal false error additional = ReadFault error additional

-- this is an answer to a write, or to a read; Device busy is an answer to either (standard, ISDU)
abbrev pub answers : Bool → Answer → Type 0
answers write Busy = Unit {0}
answers write WriteOk = write ≡ true
answers write (WriteFault error additional) = write ≡ true
answers write (ReadOk values) = write ≡ false
answers write (ReadFault error additional) = write ≡ false

-- this is no answer to the request: it belongs to the other service, or it should be a number and does not have four octets
-- (own)
abbrev pub IsUnexpected : Asks → Answer → Type 0
IsUnexpected asks answer =
    (answers (is_write asks) answer → ⊥)
    ⊎ ((asks_number asks ≡ true) × (octets : List ℕ) × (answer ≡ ReadOk (carried octets)) × (length octets ≢ 4))

-- these octets declare, or lead to, a set of more than 4,096 octets (own)
abbrev pub IsTooLarge : Asks → List ℕ → Type 0
IsTooLarge Size octets = (length octets ≡ 4) × (MOST_SET_OCTETS < number_of octets)
IsTooLarge (Value entries key rest) octets = MOST_SET_OCTETS < octets_of entries + ENTRY_HEAD_OCTETS + length octets
IsTooLarge _ octets = ⊥

-- these octets are a list that cannot be followed: no list, or the sixteenth list and it names another (own)
abbrev pub IsBadList : Asks → List ℕ → Type 0
IsBadList (IndexList index subindex lists keys) octets =
    ((why : ListFault) × (reading_of octets ≡ Err why))
    ⊎ ((listed : List Key) × (further : ℕ) × (reading_of octets ≡ Ok (listed, next.List further)) × (lists + 1 ≡ MOST_LISTS))
IsBadList _ octets = ⊥

-- these octets are kept: the keys of a list that has some, or a value that fits (own)
abbrev pub IsToBeKept : Asks → List ℕ → Type 0
IsToBeKept (IndexList index subindex lists keys) octets = IsTrue (begins_with_key octets)
IsToBeKept (Value entries key rest) octets = octets_of entries + ENTRY_HEAD_OCTETS + length octets ≤ MOST_SET_OCTETS
IsToBeKept _ octets = ⊥

-- the octets of an answer fit a message: there are at most 232 (standard, ISDU)
abbrev pub IsShort : Answer → Type 0
IsShort (ReadOk values) = length values.items ≤ MOST_ENTRY_OCTETS
IsShort WriteOk = Unit {0}
IsShort Busy = Unit {0}
IsShort (ReadFault error additional) = Unit {0}
IsShort (WriteFault error additional) = Unit {0}

-- this answer is kept, which needs memory (own)
abbrev pub NeedsMemory : Asks → Answer → Type 0
NeedsMemory asks answer = (octets : List ℕ) × (answer ≡ ReadOk (carried octets)) × IsToBeKept asks octets

-- why an upload ends at an answer: the device refused the request; the answer belongs to something else; a size; a list;
-- the sixteenth Device busy in a row; memory, only if octets are to be kept (own)
abbrev pub IsCause : Asks → ℕ → Answer → TransferFault → Type 0
IsCause asks busy answer (fault.Refused error additional) = answer ≡ refusal (is_write asks) error additional
IsCause asks busy answer fault.Unexpected = IsUnexpected asks answer
IsCause asks busy answer fault.Size = (octets : List ℕ) × (answer ≡ ReadOk (carried octets)) × IsTooLarge asks octets
IsCause asks busy answer fault.List = (octets : List ℕ) × (answer ≡ ReadOk (carried octets)) × IsBadList asks octets
IsCause asks busy answer fault.Busy = (answer ≡ Busy) × (busy + 1 ≡ MOST_REQUESTS)
IsCause asks busy answer fault.Memory = NeedsMemory asks answer

-- after this conversation the answer to the next request ends an upload with this fault (own)
pub record EndsIn (conversation : List Exchange) (answer : Answer) (fault : TransferFault) : Type 0 where
  pub asks : Asks
  pub busy : ℕ
  pub asking : IsAsking conversation asks busy
  pub cause : IsCause asks busy answer fault
