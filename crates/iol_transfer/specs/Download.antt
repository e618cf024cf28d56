-- What a download is: a conversation with a device that writes a parameter set to it, request by request.
use Rattle.std.specs.Prelude.{◌≡◌, ◌≢◌, ◌⊎◌, ℕ, ◌+◌, ◌<◌, List, [], ◌∷◌, ◌++◌, map, drop, true}
use Rattle.iol_types.specs.DataSet.{Entry, SetValue}
use Rattle.iol_link.specs.declared.messages.Request.{Request}
use Rattle.iol_link.specs.declared.messages.Request.TheVariants.{Write}
use Rattle.iol_link.specs.declared.messages.Answer.{Answer}
use Rattle.iol_link.specs.declared.messages.Answer.TheVariants.{WriteOk, WriteFault, Busy}
use Rattle.iol_transfer.specs.declared.command.DsCommand.TheVariants.{DownloadStart, DownloadEnd}
use Rattle.iol_transfer.specs.Command.{commanded}
use Rattle.iol_transfer.specs.Exchanges.{Exchange, carried, done, busy_times, Follows}
use Rattle.iol_transfer.specs.Asked.{answers}
use Rattle.iol_transfer.specs.declared.fault.TransferFault.{TransferFault}
use Rattle.iol_transfer.specs.declared.fault.TransferFault.TheVariants as fault
use Rattle.iol_transfer.specs.declared.repeats.TheConstants.{MOST_REQUESTS}
use Rattle.iol_transfer.specs.declared.download.DownloadStep.{DownloadStep}
use Rattle.iol_transfer.specs.declared.download.DownloadStep.TheVariants as step
use Rattle.iol_transfer.specs.declared.download.Progress.{Progress}
use Rattle.iol_transfer.specs.declared.download.Progress.TheVariants.{Starting, Writing}
use Rattle.iol_transfer.specs.declared.download.Download.TheInside.{Inside}

-- the request that writes a parameter (own)
abbrev pub entry_written : Entry → Request
entry_written entry = Write entry.0.index entry.0.subindex (carried entry.1)

-- the requests after DS_DownloadStart: writes of these entries in order, and DS_DownloadEnd
-- (standard, Data Storage object)
abbrev pub writes_of : List Entry → List Request
writes_of entries = map entry_written entries ++ commanded DownloadEnd ∷ []

-- the requests of a download of a set, in order: DS_DownloadStart, a write of each entry in the order of the set, and
-- DS_DownloadEnd (standard, Data Storage object)
abbrev pub order_of : SetValue → List Request
order_of set = commanded DownloadStart ∷ writes_of set.entries

-- this conversation is a whole download of a set: each request in order, sent again after Device busy, and finally
-- answered (+) (standard, Data Storage object)
abbrev pub IsDownload : SetValue → List Exchange → Type 0
IsDownload set conversation = Follows conversation (map done (order_of set))

-- after this conversation a download of a set sends this request, which was answered Device busy `busy` times in a row,
-- fewer than 16. The requests before it in the order were sent and answered (+), and nothing else was sent (own)
pub record IsSending (set : SetValue) (conversation : List Exchange) (request : Request) (busy : ℕ) : Type 0 where
  pub sent : List Request
  pub left : List Request
  pub before : List Exchange
  pub order : order_of set ≡ sent ++ request ∷ left
  pub is : conversation ≡ before ++ busy_times busy request
  pub few : busy < MOST_REQUESTS
  pub follows : Follows before (map done sent)

-- why a download ends at an answer: the device refused the write; the answer is not one to a write; the sixteenth Device
-- busy in a row (own)
abbrev pub IsDownloadCause : ℕ → Answer → TransferFault → Type 0
IsDownloadCause busy answer (fault.Refused error additional) = answer ≡ WriteFault error additional
IsDownloadCause busy answer fault.Unexpected = answers true answer → ⊥
IsDownloadCause busy answer fault.Busy = (answer ≡ Busy) × (busy + 1 ≡ MOST_REQUESTS)
IsDownloadCause busy answer _ = ⊥

-- after this conversation the answer to the next request ends a download of a set with this fault (own)
pub record DownloadEndsIn (set : SetValue) (conversation : List Exchange) (answer : Answer) (fault : TransferFault) : Type 0 where
  pub request : Request
  pub busy : ℕ
  pub sending : IsSending set conversation request busy
  pub cause : IsDownloadCause busy answer fault

-- what a download sends next: DS_DownloadStart, the write of an entry that has these entries after it, or DS_DownloadEnd
-- (own)
pub data Sends : Type 0 where
  Opening : Sends
  Parameter : (entry : Entry) (rest : List Entry) → Sends
  Closing : Sends

-- a download in progress: its set, what it sends next, and how many times in a row that was answered Device busy (own)
pub record Sender : Type 0 where
  pub set : SetValue
  pub sends : Sends
  pub busy : ℕ

-- a download of a set that has sent nothing yet (own)
abbrev pub begun_download : SetValue → Sender
begun_download set = record { set = set; sends = Opening; busy = 0 }

-- the write of the first of these entries, or DS_DownloadEnd if there is none (own)
abbrev pub writing : List Entry → Sends
writing [] = Closing
writing (entry ∷ rest) = Parameter entry rest

-- what a download in memory sends next (own)
abbrev pub sends_of : List Entry → Progress → Sends
sends_of entries Starting = Opening
sends_of entries (Writing place) = writing (drop place entries)

-- a download in memory, as a `Sender` (own)
abbrev pub sender_of : Inside → Sender
sender_of download =
    record { set = download.set.value; sends = sends_of download.set.value.entries download.progress; busy = download.repeats }

-- the request that a download sends next (standard, Data Storage object)
abbrev pub sent_by : Sends → Request
sent_by Opening = commanded DownloadStart
sent_by (Parameter entry rest) = entry_written entry
sent_by Closing = commanded DownloadEnd

-- the requests that follow the next one (own)
abbrev pub later_writes : SetValue → Sends → List Request
later_writes set Opening = writes_of set.entries
later_writes set (Parameter entry rest) = writes_of rest
later_writes set Closing = []

-- what a download sends next after an answer (+) (own)
abbrev pub sends_after : SetValue → Sends → Sends
sends_after set Opening = writing set.entries
sends_after set (Parameter entry rest) = writing rest
sends_after set Closing = Closing

-- the next request of a download, with an answer to it (own)
abbrev pub answered_to : Sender → Answer → Exchange
answered_to sender answer = record { request = sent_by sender.sends; answer = answer }

-- these are the exchanges of a download since it began with a set (own)
pub record IsDownloading (set : SetValue) (conversation : List Exchange) (sender : Sender) : Type 0 where
  pub set_is : sender.set ≡ set
  pub sent : List Request
  pub before : List Exchange
  pub order : order_of set ≡ sent ++ sent_by sender.sends ∷ later_writes set sender.sends
  pub is : conversation ≡ before ++ busy_times sender.busy (sent_by sender.sends)
  pub few : sender.busy < MOST_REQUESTS
  pub follows : Follows before (map done sent)

-- the result of `feed` of a download, and the download after it (own)
abbrev pub IsDownloadStep : Sender → Answer → DownloadStep → Sender → Type 0
IsDownloadStep old answer step.More new =
    ((answer ≡ Busy) × (old.busy + 1 < MOST_REQUESTS)
    × (new ≡ record { set = old.set; sends = old.sends; busy = old.busy + 1 }))
    ⊎ ((answer ≡ WriteOk) × (old.sends ≢ Closing)
    × (new ≡ record { set = old.set; sends = sends_after old.set old.sends; busy = 0 }))
IsDownloadStep old answer step.Whole new = (answer ≡ WriteOk) × (old.sends ≡ Closing)
IsDownloadStep old answer (step.Fault why) new = IsDownloadCause old.busy answer why

-- this holds if a download continues (own)
abbrev pub IfGoesOn : DownloadStep → Type 0 → Type 0
IfGoesOn step.More holds = holds
IfGoesOn step.Whole holds = Unit {0}
IfGoesOn (step.Fault why) holds = Unit {0}

-- this holds if a download is whole (own)
abbrev pub IfDone : DownloadStep → Type 0 → Type 0
IfDone step.Whole holds = holds
IfDone step.More holds = Unit {0}
IfDone (step.Fault why) holds = Unit {0}

-- this holds of the fault, if a download ends with one (own)
abbrev pub IfEnds : DownloadStep → (TransferFault → Type 0) → Type 0
IfEnds (step.Fault why) holds = holds why
IfEnds step.More holds = Unit {0}
IfEnds step.Whole holds = Unit {0}
