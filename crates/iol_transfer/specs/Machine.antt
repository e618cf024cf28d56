-- An upload, answer by answer.
use Rattle.std.specs.Prelude.{◌≡◌, ℕ, ◌+◌, ◌==◌, nat_lt, not, Bool, if◌then◌else◌, List, [], ◌∷◌, ◌++◌, length, fold, Result, Ok, Err}
use Rattle.std.specs.Prelude.{is_some}
use Rattle.iol_types.specs.DataSet.{Entry, SetValue, add_fault}
use Rattle.iol_types.specs.declared.key.Key.{Key}
use Rattle.iol_types.specs.declared.key.TheConstants.{DATA_STORAGE}
use Rattle.iol_types.specs.declared.data_set.TheConstants.{MOST_SET_OCTETS}
use Rattle.iol_link.specs.declared.messages.Request.{Request}
use Rattle.iol_link.specs.declared.messages.Answer.{Answer}
use Rattle.iol_link.specs.declared.messages.Answer.TheVariants.{ReadOk, ReadFault, WriteOk, WriteFault, Busy}
use Rattle.iol_transfer.specs.List.{Listing, reading_of, kept_with}
use Rattle.iol_transfer.specs.declared.list.Next.TheVariants as next
use Rattle.iol_transfer.specs.declared.list.ListFault.{ListFault}
use Rattle.iol_transfer.specs.declared.object.TheConstants.{INDEX_LIST}
use Rattle.iol_transfer.specs.Exchanges.{Exchange}
use Rattle.iol_transfer.specs.Upload.{number_of}
use Rattle.iol_transfer.specs.Asked.{Asks, Start, Size, IndexList, Value, Checksum, request_of, is_write}
use Rattle.iol_transfer.specs.declared.fault.TransferFault.{TransferFault}
use Rattle.iol_transfer.specs.declared.fault.TransferFault.TheVariants as fault
use Rattle.iol_transfer.specs.declared.repeats.TheConstants.{MOST_REQUESTS}
use Rattle.iol_transfer.specs.declared.upload.TheConstants.{MOST_LISTS}

-- an upload in progress: the numbers of its device, what it asks for, and how many times in a row that was answered Device
-- busy (own)
pub record Machine : Type 0 where
  pub vendor : ℕ
  pub device : ℕ
  pub asks : Asks
  pub busy : ℕ

-- the effect of an answer on an upload: it continues, it has read a whole set, or it ends with a fault (own)
pub data Outcome : Type 0 where
  More : (machine : Machine) → Outcome
  Whole : (set : SetValue) → Outcome
  Fault : (fault : TransferFault) → Outcome

-- an upload from a device with these numbers that has sent no request yet (own)
abbrev pub begun : ℕ → ℕ → Machine
begun vendor device = record { vendor = vendor; device = device; asks = Start; busy = 0 }

-- the request that an upload sends next (own)
abbrev pub asked : Machine → Request
asked machine = request_of machine.asks

-- an upload continues and asks for this (own)
abbrev pub goes_on : Machine → Asks → Outcome
goes_on machine asks = More (record { vendor = machine.vendor; device = machine.device; asks = asks; busy = 0 })

-- with these entries read, the request for the next of the keys that are left, or for the checksum if none is left (own)
abbrev pub reading : List Entry → List Key → Asks
reading entries [] = Checksum entries
reading entries (key ∷ rest) = Value entries key rest

-- the outcome after the declared size (own)
abbrev pub after_size : Machine → List ℕ → Outcome
after_size machine octets =
    if not (length octets == 4) then Fault fault.Unexpected
    else if nat_lt MOST_SET_OCTETS (number_of octets) then Fault fault.Size
    else goes_on machine (IndexList DATA_STORAGE INDEX_LIST 0 [])

-- the outcome after a list, with the keys of those before it (own)
abbrev pub after_list : Machine → ℕ → List Key → Result Listing ListFault → Outcome
after_list machine lists keys (Err why) = Fault fault.List
after_list machine lists keys (Ok (listed, next.End)) = goes_on machine (reading [] (fold kept_with keys listed))
after_list machine lists keys (Ok (listed, next.List index)) =
    if nat_lt (lists + 1) MOST_LISTS then goes_on machine (IndexList index 0 (lists + 1) (fold kept_with keys listed))
    else Fault fault.List

-- the outcome after a value (own)
abbrev pub after_value : Machine → List Entry → Key → List Key → List ℕ → Outcome
after_value machine entries key rest octets =
    if is_some (add_fault entries key octets) then Fault fault.Size
    else goes_on machine (reading (entries ++ (key, octets) ∷ []) rest)

-- the outcome after the checksum (own)
abbrev pub after_checksum : Machine → List Entry → List ℕ → Outcome
after_checksum machine entries octets =
    if length octets == 4
    then Whole (record { entries = entries; vendor = machine.vendor; device = machine.device; checksum = number_of octets })
    else Fault fault.Unexpected

-- the outcome after octets were read (own)
abbrev pub after_read : Machine → Asks → List ℕ → Outcome
after_read machine Start octets = Fault fault.Unexpected
after_read machine Size octets = after_size machine octets
after_read machine (IndexList index subindex lists keys) octets = after_list machine lists keys (reading_of octets)
after_read machine (Value entries key rest) octets = after_value machine entries key rest octets
after_read machine (Checksum entries) octets = after_checksum machine entries octets

-- the outcome after a write (own)
abbrev pub after_write : Machine → Asks → Outcome
after_write machine Start = goes_on machine Size
after_write machine _ = Fault fault.Unexpected

-- the outcome after an answer (-), of the requested service or of the other (own)
abbrev pub after_refusal : Bool → ℕ → ℕ → Outcome
after_refusal right error additional = if right then Fault (fault.Refused error additional) else Fault fault.Unexpected

-- the outcome after Device busy (own)
abbrev pub after_busy : Machine → Outcome
after_busy machine =
    if nat_lt (machine.busy + 1) MOST_REQUESTS
    then More (record { vendor = machine.vendor; device = machine.device; asks = machine.asks; busy = machine.busy + 1 })
    else Fault fault.Busy

-- the outcome after an answer (own)
abbrev pub step : Machine → Answer → Outcome
step machine Busy = after_busy machine
step machine (ReadOk values) = after_read machine machine.asks values.items
step machine WriteOk = after_write machine machine.asks
step machine (ReadFault error additional) = after_refusal (not (is_write machine.asks)) error additional
step machine (WriteFault error additional) = after_refusal (is_write machine.asks) error additional

-- the next request of an upload, with an answer to it (own)
abbrev pub answered : Machine → Answer → Exchange
answered machine answer = record { request = asked machine; answer = answer }

-- these exchanges, each of the next request, lead from one upload in progress to another (own)
abbrev pub Leads : Machine → List Exchange → Machine → Type 0
Leads machine [] last = machine ≡ last
Leads machine (exchange ∷ more) last =
    (exchange.request ≡ asked machine) × (after : Machine) × (step machine exchange.answer ≡ More after) × Leads after more last

-- these are the exchanges of an upload since it began, from a device with these numbers (own)
abbrev pub IsSinceBegin : ℕ → ℕ → List Exchange → Machine → Type 0
IsSinceBegin vendor device conversation machine = Leads (begun vendor device) conversation machine
