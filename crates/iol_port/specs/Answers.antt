-- How a port continues after an answer of its device.
use Rattle.std.specs.Prelude.{◌≡◌, ◌⊎◌, ℕ, ◌+◌, ◌-◌, ◌==◌, nat_lt, if◌then◌else◌, length, slice_index, Result, Ok, Err}
use Rattle.iol_types.specs.DataSet.{SetValue}
use Rattle.iol_link.specs.declared.messages.Answer.{Answer}
use Rattle.iol_link.specs.declared.messages.Answer.TheVariants as answer
use Rattle.iol_link.specs.declared.faults.IsduFault.{IsduFault}
use Rattle.iol_link.specs.Page.{PageValue}
use Rattle.iol_transfer.specs.Property.{PropertyValue, property_of}
use Rattle.iol_transfer.specs.Asked.{NeedsMemory}
use Rattle.iol_transfer.specs.Upload.{number_of}
use Rattle.iol_transfer.specs.Machine.{Machine, Outcome, More, Whole, Fault, step}
use Rattle.iol_transfer.specs.Download.{Sender, Sends, Opening, Parameter, Closing, sends_after}
use Rattle.iol_transfer.specs.declared.fault.TransferFault.{TransferFault}
use Rattle.iol_transfer.specs.declared.fault.TransferFault.TheVariants as transfer
use Rattle.iol_transfer.specs.declared.repeats.TheConstants.{MOST_REQUESTS}
use Rattle.iol_core.specs.declared.permit.UploadGrant.{UploadGrant}
use Rattle.iol_port.specs.Faults.{read_fault, write_fault}
use Rattle.iol_port.specs.Stage.{Stage, Settled, Attending, Exchanging, Uploading, Filing, Downloading, Breaking, Returning}
use Rattle.iol_port.specs.declared.fault.PortFault.{PortFault}
use Rattle.iol_port.specs.declared.fault.PortFault.TheVariants as fault
use Rattle.iol_port.specs.declared.fault.StoringFault.TheVariants as unstored
use Rattle.iol_port.specs.declared.stage.Rest.TheVariants as rest
use Rattle.iol_port.specs.declared.stage.FoundDevice.{FoundDevice}
use Rattle.iol_port.specs.declared.stage.AttendFor.TheVariants as attend
use Rattle.iol_port.specs.declared.stage.ExchangeFor.{ExchangeFor}
use Rattle.iol_port.specs.declared.stage.ExchangeFor.TheVariants as exchange
use Rattle.iol_port.specs.declared.stage.Held.TheVariants as held

-- the stage of a port that has failed (own)
abbrev pub failed : PortFault → Stage
failed why = Settled (rest.Failed why)

-- after Device busy, if a request may still be sent `left` times: it is sent again, or the port fails after the last time (own)
abbrev pub again : ℕ → ExchangeFor → Stage
again left next = if nat_lt 1 left then Exchanging next else failed (fault.Transfer transfer.Busy)

-- after State_Property, one octet, was read from a device that was found (own)
abbrev pub state_read : FoundDevice → ℕ → Result Answer IsduFault → Stage
state_read found left (Ok (answer.ReadOk octets)) =
    if length octets.items == 1
    then Exchanging (exchange.ReadingChecksum found (property_of (slice_index octets.items 0)) MOST_REQUESTS)
    else failed (fault.Transfer transfer.Unexpected)
state_read found left (Ok answer.Busy) = again left (exchange.ReadingState found (left - 1))
state_read found left other = failed (read_fault other)

-- after Parameter_Checksum, four octets, was read (own)
abbrev pub checksum_read : FoundDevice → PropertyValue → ℕ → Result Answer IsduFault → Stage
checksum_read found property left (Ok (answer.ReadOk octets)) =
    if length octets.items == 4
    then Attending (attend.Confirming found property (number_of octets.items))
    else failed (fault.Transfer transfer.Unexpected)
checksum_read found property left (Ok answer.Busy) = again left (exchange.ReadingChecksum found property (left - 1))
checksum_read found property left other = failed (read_fault other)

-- after DS_UploadEnd (own)
abbrev pub upload_ended : PageValue → ℕ → Result Answer IsduFault → Stage
upload_ended page left (Ok answer.WriteOk) = Settled (rest.Ready page)
upload_ended page left (Ok answer.Busy) = again left (exchange.EndingUpload page (left - 1))
upload_ended page left other = failed (write_fault other)

-- after an exchange outside a transfer; the answer to DS_Break is ignored (own)
abbrev pub exchanged : ExchangeFor → Result Answer IsduFault → Stage
exchanged (exchange.ReadingState found left) heard = state_read found left heard
exchanged (exchange.ReadingChecksum found property left) heard = checksum_read found property left heard
exchanged (exchange.EndingUpload page left) heard = upload_ended page left heard
exchanged (exchange.Stopping storing) heard = failed (fault.Storing unstored.Stopped)
exchanged exchange.Yielding heard = Attending attend.Restarting

-- how an upload continues: with its next request, by filing its set, or it is broken off (own)
abbrev pub uploaded : UploadGrant → PageValue → Outcome → Stage
uploaded grant page (More upload) = Uploading grant page upload
uploaded grant page (Whole set) = Filing grant page set
uploaded grant page (Fault why) = Breaking (held.Upload grant) (fault.Transfer why)

-- after an answer to a request of an upload (own)
abbrev pub upload_answered : UploadGrant → PageValue → Machine → Result Answer IsduFault → Stage
upload_answered grant page upload (Ok heard) = uploaded grant page (step upload heard)
upload_answered grant page upload (Err why) = Breaking (held.Upload grant) (fault.Isdu why)

-- an answer needs memory, as it is to be kept or makes an upload whole (own)
abbrev pub AsksMemory : Machine → Result Answer IsduFault → Type 0
AsksMemory upload (Ok heard) = NeedsMemory upload.asks heard ⊎ ((set : SetValue) × (step upload heard ≡ Whole set))
AsksMemory upload (Err why) = ⊥

-- a download after an answer: it continues, all is sent, or it ends in a fault (own)
pub data Sent : Type 0 where
  GoesOn : (download : Sender) → Sent
  Done : Sent
  Ends : (fault : TransferFault) → Sent

-- after an answer (+) to what a download sends (own)
abbrev pub sent_well : SetValue → Sends → Sent
sent_well set Opening = GoesOn (record { set = set; sends = sends_after set Opening; busy = 0 })
sent_well set (Parameter entry others) = GoesOn (record { set = set; sends = sends_after set (Parameter entry others); busy = 0 })
sent_well set Closing = Done

-- after an answer to a request of a download (own)
abbrev pub sent : Sender → Answer → Sent
sent download answer.WriteOk = sent_well download.set download.sends
sent download answer.Busy =
    if nat_lt (download.busy + 1) MOST_REQUESTS
    then GoesOn (record { set = download.set; sends = download.sends; busy = download.busy + 1 })
    else Ends transfer.Busy
sent download (answer.WriteFault error additional) = Ends (transfer.Refused error additional)
sent download (answer.ReadOk octets) = Ends transfer.Unexpected
sent download (answer.ReadFault error additional) = Ends transfer.Unexpected

-- how a download continues: with its next request, by returning its permit, or it is broken off (own)
abbrev pub downloaded : ℕ → PageValue → Sent → Stage
downloaded port page (GoesOn download) = Downloading port page download
downloaded port page Done = Returning (held.Download port) (rest.Ready page)
downloaded port page (Ends why) = Breaking (held.Download port) (fault.Transfer why)

abbrev pub download_answered : ℕ → PageValue → Sender → Result Answer IsduFault → Stage
download_answered port page download (Ok heard) = downloaded port page (sent download heard)
download_answered port page download (Err why) = Breaking (held.Download port) (fault.Isdu why)

-- after an answer of the device; the answer to DS_Break is ignored (own)
abbrev pub answered : Stage → Result Answer IsduFault → Stage
answered (Exchanging exchange_for) heard = exchanged exchange_for heard
answered (Uploading grant page upload) heard = upload_answered grant page upload heard
answered (Downloading port page download) heard = download_answered port page download heard
answered (Breaking held why) heard = Returning held (rest.Failed why)
answered stage heard = stage

-- out of memory for an answer that needs it: the upload is broken off (own)
abbrev pub RunsOut : Stage → Result Answer IsduFault → Stage → Type 0
RunsOut (Uploading grant page upload) heard new =
    AsksMemory upload heard × (new ≡ Breaking (held.Upload grant) (fault.Transfer transfer.Memory))
RunsOut _ heard new = ⊥
