-- What is written to the device of a port, by what a machine hears.
use Rattle.std.proofs.Common.{◌≡◌, inl, inr, ℕ, ◌+◌, ◌-◌, Bool, true, false, if◌then◌else◌, nat_lt, List, [], ◌∷◌, ◌++◌, refl, sym}
use Rattle.std.proofs.Common.{arith, lit<}
use Rattle.std.proofs.lemmas.Bool.Decides.{nat_tests}
use Rattle.std.specs.Prelude.{Option, Some, None, Result, Ok, Err, ◌&&◌, ◌==◌, not, length, slice_index}
use Rattle.arrayvec.specs.ArrayVec.{ArrayVec}
use Rattle.iol_types.specs.Config.{restores}
use Rattle.iol_link.specs.Reading.{answer_of}
use Rattle.iol_link.specs.declared.messages.Answer.{Answer}
use Rattle.iol_link.specs.declared.messages.Answer.TheVariants as answer
use Rattle.iol_link.specs.declared.faults.IsduFault.{IsduFault}
use Rattle.iol_link.specs.Page.{PageValue, page_of}
use Rattle.iol_link.specs.Validation.{ident_fault}
use Rattle.iol_link.specs.declared.validation.IdentFault.{IdentFault}
use Rattle.iol_transfer.specs.Property.{PropertyValue, property_of}
use Rattle.iol_transfer.specs.declared.command.DsCommand.TheVariants as command
use Rattle.iol_transfer.specs.Command.{commanded}
use Rattle.iol_transfer.specs.Upload.{number_of}
use Rattle.iol_transfer.specs.Machine.{Machine, Outcome, More, Whole, Fault, step}
use Rattle.iol_transfer.specs.Download.{Sender, Sends, Opening, Parameter, Closing, sent_by, answered_to}
use Rattle.iol_transfer.specs.declared.download.DownloadStep.TheVariants as download_step
use Rattle.iol_transfer.specs.declared.fault.TransferFault.TheVariants as transfer
use Rattle.iol_transfer.specs.declared.repeats.TheConstants.{MOST_REQUESTS}
use Rattle.iol_transfer.proofs.Sending.{fed-on, fed-done}
use Rattle.iol_core.specs.declared.permit.UploadGrant.{UploadGrant}
use Rattle.iol_core.specs.declared.port.Work.{Work}
use Rattle.iol_core.specs.declared.ticket.TicketState.{TicketState}
use Rattle.iol_core.specs.declared.ticket.TicketState.TheVariants as ticket
use Rattle.iol_core.specs.declared.upload.PermitFault.{PermitFault}
use Rattle.iol_core.specs.declared.upload.FinishFault.{FinishFault}
use Rattle.iol_core.specs.declared.upload.FinishFault.TheVariants as finish
use Rattle.iol_core.specs.declared.download.DownloadBegun.{DownloadBegun}
use Rattle.iol_core.specs.declared.download.DownloadFault.{DownloadFault}
use Rattle.iol_port.specs.Answers.{failed, again, state_read, checksum_read, upload_ended, exchanged, uploaded, upload_answered, Sent}
use Rattle.iol_port.specs.Answers.{GoesOn, Done, Ends, sent, sent_well, downloaded, download_answered}
use Rattle.iol_port.specs.Calls.{BeginDownload}
use Rattle.iol_port.specs.Decision.{decide}
use Rattle.iol_port.specs.Heard.{page_heard, settled_with, judged, resumed, is_under, decided, attended, upload_begun, download_begun}
use Rattle.iol_port.specs.Heard.{upload_finished, ticket_told}
use Rattle.iol_port.specs.History.{ComesOf, Happening, Did}
use Rattle.iol_port.specs.Laws.{last_work, HasExamined, IsDurable}
use Rattle.iol_port.specs.Stage.{Settled, Paging, Attending, BeginningDownload, Exchanging}
use Rattle.iol_port.specs.Stage.{To, Start}
use Rattle.iol_port.specs.Status.{status_of, status_at_rest}
use Rattle.iol_port.specs.Wanted.{Wanted, ThePage, AnswerTo, ReplyTo, wanted, request_for}
use Rattle.iol_port.specs.declared.action.Input.TheVariants as input
use Rattle.iol_port.specs.declared.call.Reply.TheVariants as reply
use Rattle.iol_port.specs.declared.decision.Decision.{Decision}
use Rattle.iol_port.specs.declared.decision.Decision.TheVariants as decision
use Rattle.iol_port.specs.declared.fault.PortFault.TheVariants as fault
use Rattle.iol_port.specs.declared.stage.Rest.{Rest}
use Rattle.iol_port.specs.declared.stage.Rest.TheVariants as rest
use Rattle.iol_port.specs.declared.stage.FoundDevice.{FoundDevice}
use Rattle.iol_port.specs.declared.stage.PageFor.{PageFor}
use Rattle.iol_port.specs.declared.stage.PageFor.TheVariants as page_for
use Rattle.iol_port.specs.declared.stage.AttendFor.{AttendFor}
use Rattle.iol_port.specs.declared.stage.AttendFor.TheVariants as attend
use Rattle.iol_port.specs.declared.stage.ExchangeFor.{ExchangeFor}
use Rattle.iol_port.specs.declared.stage.ExchangeFor.TheVariants as exchange
use Rattle.iol_port.specs.declared.stage.Held.TheVariants as held
use Rattle.iol_port.specs.declared.status.PortStatus.{PortStatus}
use Rattle.iol_port.proofs.Stages.{PagingIs, AttendingIs, ExchangingIs}
use Rattle.iol_port.proofs.Telling.{Said, sent_step}
use Rattle.iol_port.proofs.Written.{Writes, Rests, ReturnsTo, WrittenIs, NextWritten}

-- ---- exchanges outside a transfer

again_written : (port : ℕ) (was : PortStatus) (history : List Happening) (left : ℕ) (next : ExchangeFor)
    → WrittenIs port was history (again left next)
again_written port was history left next = by (nat_lt 1 left)
  where
    by : (test : Bool) → WrittenIs port was history (if test then Exchanging next else failed (fault.Transfer transfer.Busy))
    by true = tt
    by false = inr tt

state_written : (port : ℕ) (was : PortStatus) (history : List Happening) (found : FoundDevice) (left : ℕ) (heard : Result Answer IsduFault)
    → WrittenIs port was history (state_read found left heard)
state_written port was history found left (Ok (answer.ReadOk octets)) = by (length octets.items == 1)
  where
    by : (test : Bool) → WrittenIs port was history
        (if test then Exchanging (exchange.ReadingChecksum found (property_of (slice_index octets.items 0)) MOST_REQUESTS)
        else failed (fault.Transfer transfer.Unexpected))
    by true = tt
    by false = inr tt
state_written port was history found left (Ok answer.Busy) = again_written port was history left (exchange.ReadingState found (left - 1))
state_written port was history found left other = inr tt

checksum_written : (port : ℕ) (was : PortStatus) (history : List Happening) (found : FoundDevice) (property : PropertyValue) (left : ℕ)
    (heard : Result Answer IsduFault) → WrittenIs port was history (checksum_read found property left heard)
checksum_written port was history found property left (Ok (answer.ReadOk octets)) = by (length octets.items == 4)
  where
    by : (test : Bool) → WrittenIs port was history
        (if test then Attending (attend.Confirming found property (number_of octets.items))
        else failed (fault.Transfer transfer.Unexpected))
    by true = tt
    by false = inr tt
checksum_written port was history found property left (Ok answer.Busy) =
    again_written port was history left (exchange.ReadingChecksum found property (left - 1))
checksum_written port was history found property left other = inr tt

ended_written : (port : ℕ) (was : PortStatus) (page : PageValue) (left : ℕ) (before : List Happening) (octets : ArrayVec ℕ)
    (heard : Result Answer IsduFault)
    → IsDurable port before → answer_of octets.items ≡ heard
    → WrittenIs port was (Did (AnswerTo (commanded command.UploadEnd)) (input.Octets octets) ∷ before) (upload_ended page left heard)
ended_written port was page left before octets (Ok answer.WriteOk) is read = inr (refl, read, is)
ended_written port was page left before octets (Ok answer.Busy) is read =
    again_written port was (Did (AnswerTo (commanded command.UploadEnd)) (input.Octets octets) ∷ before) left
    (exchange.EndingUpload page (left - 1))
ended_written port was page left before octets other is read = inr tt

pub exchanged_written : (port : ℕ) (was : PortStatus) (what : ExchangeFor) (before : List Happening) (octets : ArrayVec ℕ)
    → ExchangingIs port before what
    → WrittenIs port was (Did (AnswerTo (request_for what)) (input.Octets octets) ∷ before) (exchanged what (answer_of octets.items))
exchanged_written port was (exchange.ReadingState found left) before octets is =
    state_written port was (Did (AnswerTo (request_for (exchange.ReadingState found left))) (input.Octets octets) ∷ before) found left
    (answer_of octets.items)
exchanged_written port was (exchange.ReadingChecksum found property left) before octets is =
    checksum_written port was (Did (AnswerTo (request_for (exchange.ReadingChecksum found property left)))
    (input.Octets octets) ∷ before) found property left
    (answer_of octets.items)
exchanged_written port was (exchange.EndingUpload page left) before octets is = ended_written port was page left before octets _ is refl
exchanged_written port was (exchange.Stopping storing) before octets is = inr tt
exchanged_written port was exchange.Yielding before octets is = tt

-- ---- transfers

pub upload_written : (port : ℕ) (was : PortStatus) (history : List Happening) (grant : UploadGrant) (page : PageValue) (upload : Machine)
    (heard : Result Answer IsduFault) → WrittenIs port was history (upload_answered grant page upload heard)
upload_written port was history grant page upload (Err why) = tt
upload_written port was history grant page upload (Ok said) = by (step upload said)
  where
    by : (outcome : Outcome) → WrittenIs port was history (uploaded grant page outcome)
    by (More next) = tt
    by (Whole set) = tt
    by (Fault why) = tt

-- a download is done if its last request was answered (+)
sent_last : (download : Sender) (said : Answer) → sent download said ≡ Done → (said ≡ answer.WriteOk) × (download.sends ≡ Closing)
sent_last download answer.WriteOk ends = (refl, by download.sends ends)
  where
    by : (sends : Sends) → sent_well download.set sends ≡ Done → sends ≡ Closing
    by Opening ends = absurd cc
    by (Parameter entry behind) ends = absurd cc
    by Closing ends = refl
sent_last download answer.Busy ends = absurd (by (nat_lt (download.busy + 1) MOST_REQUESTS) ends)
  where
    by : (test : Bool)
        → (if test then GoesOn (record { set = download.set; sends = download.sends; busy = download.busy + 1 }) else Ends transfer.Busy)
        ≡ Done → ⊥
    by true ends = cc
    by false ends = cc
sent_last download (answer.WriteFault error additional) ends = absurd cc
sent_last download (answer.ReadOk octets) ends = absurd cc
sent_last download (answer.ReadFault error additional) ends = absurd cc

pub download_written : (port permit : ℕ) (was : PortStatus) (page : PageValue) (download : Sender) (before : List Happening)
    (octets : ArrayVec ℕ)
    (heard : Result Answer IsduFault) → Writes port page download before → answer_of octets.items ≡ heard
    → WrittenIs port was (Did (AnswerTo (sent_by download.sends)) (input.Octets octets) ∷ before)
    (download_answered permit page download heard)
download_written port permit was page download before octets (Err why) is read = tt
download_written port permit was page download before octets (Ok said) is read = by (sent download said) refl
  where
    by : (now : Sent) → sent download said ≡ now
        → WrittenIs port was (Did (AnswerTo (sent_by download.sends)) (input.Octets octets) ∷ before) (downloaded permit page now)
    by (GoesOn next) goes = record {
      set = is.set;
      conversation = is.conversation ++ answered_to download said ∷ [];
      downloaded = (is.conversation, said, is.downloaded, read, refl);
      since = fed-on download next said download_step.More (sent_step download next said goes) is.set is.conversation is.since;
      vendor = is.vendor;
      device = is.device;
    }
    by Done ends = record {
      set = is.set;
      conversation = is.conversation ++ answered_to download said ∷ [];
      downloaded = (is.conversation, said, is.downloaded, read, refl);
      whole = fed-done download download said download_step.Whole (sent_last download said ends) is.set is.conversation is.since;
      vendor = is.vendor;
      device = is.device;
    }
    by (Ends why) ends = tt

-- ---- pages and work

judged_written : (port : ℕ) (was : PortStatus) (work : Work) (connection : ℕ) (octets : List ℕ) (before : List Happening)
    (why : Option IdentFault)
    → last_work before ≡ Some work
    → WrittenIs port was (Did ThePage (input.Page connection octets) ∷ before) (judged work connection (page_of octets) why)
judged_written port was work connection octets before None said = by (restores work.config.validation) refl
  where
    by : (test : Bool) → restores work.config.validation ≡ test → WrittenIs port was (Did ThePage (input.Page connection octets) ∷ before)
        (if test then Exchanging (exchange.ReadingState
        (record { work = work; page = page_of octets; connection = connection }) MOST_REQUESTS)
        else Settled (rest.Ready (page_of octets)))
    by true nothing = tt
    by false nothing = inr (refl, (work, said, nothing))
judged_written port was work connection octets before (Some why) said = inr tt

pub page_written : (port : ℕ) (what : PageFor) (connection : ℕ) (octets : List ℕ) (before : List Happening) → PagingIs before what
    → NextWritten port (status_of (Paging what)) (Did ThePage (input.Page connection octets) ∷ before)
    (page_heard what connection (page_of octets))
page_written port (page_for.Comparing work own) connection octets before said = by (settled_with own (page_of octets))
  where
    by : (test : Bool) → NextWritten port (status_at_rest own) (Did ThePage (input.Page connection octets) ∷ before)
        (if test then To (Settled own) else Start work)
    by true = inl refl
    by false = tt
page_written port (page_for.Identifying work) connection octets before said =
    judged_written port (status_of (Paging (page_for.Identifying work))) work connection octets before
    (ident_fault work.config (page_of octets)) said

resumed_written : (port : ℕ) (was : PortStatus) (own : Rest) (work : Work) (history : List Happening)
    → NextWritten port was history (resumed own work)
resumed_written port was rest.Off work history = inr tt
resumed_written port was rest.Lost work history = tt
resumed_written port was (rest.Failed why) work history = tt
resumed_written port was own work history = tt

decided_written : (port : ℕ) (was : PortStatus) (found : FoundDevice) (property : PropertyValue) (checksum : ℕ) (work : Work)
    (before : List Happening) (now : Decision)
    → HasExamined found property checksum before → found.work.revision ≡ work.revision
    → decide work.config.validation property.state property.flag checksum work.checksum ≡ now
    → WrittenIs port was (Said port (Some work) ∷ before) (decided found checksum now)
decided_written port was found property checksum work before decision.Ready is same now =
    inr (found, checksum, record { property = property; examined = is; revision = same; decided = now }, refl)
decided_written port was found property checksum work before decision.ReadyLocked is same now =
    inr (found, checksum, record { property = property; examined = is; revision = same; decided = now }, refl)
decided_written port was found property checksum work before decision.ReadyEmpty is same now =
    inr (found, checksum, record { property = property; examined = is; revision = same; decided = now }, refl)
decided_written port was found property checksum work before decision.Upload is same now = tt
decided_written port was found property checksum work before decision.Download is same now = tt

pub attended_written : (port : ℕ) (was : PortStatus) (started : Option ℕ) (requested : Bool) (what : AttendFor) (work : Option Work)
    (before : List Happening)
    → AttendingIs before what → NextWritten port was (Said port work ∷ before) (attended started requested what work)
attended_written port was started requested what None before is = inr tt
attended_written port was started requested (attend.Waking own) (Some work) before is = by (is_under started work.revision && not requested)
  where
    by : (test : Bool) → NextWritten port was (Said port (Some work) ∷ before) (if test then resumed own work else Start work)
    by true = resumed_written port was own work (Said port (Some work) ∷ before)
    by false = tt
attended_written port was started requested (attend.Confirming found property checksum) (Some work) before is =
    by (found.work.revision == work.revision) refl
  where
    by : (test : Bool) → (found.work.revision == work.revision) ≡ test → NextWritten port was (Said port (Some work) ∷ before)
        (if test then To (decided found checksum (decide work.config.validation property.state property.flag checksum work.checksum))
        else Start work)
    by true same = decided_written port was found property checksum work before _ is (grind (arith, nat_tests, same)) refl
    by false same = tt
attended_written port was started requested attend.Restarting (Some work) before is = tt

-- ---- replies

pub begun_written : (port : ℕ) (was : PortStatus) (history : List Happening) (page : PageValue) (begins : Result UploadGrant PermitFault)
    → WrittenIs port was history (upload_begun page begins)
begun_written port was history page (Ok grant) = tt
begun_written port was history page (Err why) = inr tt

pub download_begun_written : (port : ℕ) (was : PortStatus) (found : FoundDevice) (checksum : ℕ)
    (begins : Result DownloadBegun DownloadFault)
    (before : List Happening)
    → ComesOf (wanted port (BeginningDownload found checksum)) (input.Reply (reply.BegunDownload begins))
    → WrittenIs port was (Did (wanted port (BeginningDownload found checksum)) (input.Reply (reply.BegunDownload begins)) ∷ before)
    (download_begun found.page begins)
download_begun_written port was found checksum (Ok begins) before comes =
    let vendor = comes.vendor_is in let device = comes.device_is in
    record {
      set = begins.set.value;
      conversation = [];
      downloaded = (comes.set_is, refl, (checksum, (λ j. ReplyTo (BeginDownload port (sym vendor j) (sym device j) checksum))), refl);
      since = record { set_is = refl; sent = []; before = []; order = refl; is = refl; few = lit< tt; follows = refl };
      vendor = vendor;
      device = device;
    }
download_begun_written port was found checksum (Err why) before comes = inr tt

pub finished_written : (port : ℕ) (was : PortStatus) (history : List Happening) (page : PageValue) (finished : Result ℕ FinishFault)
    → WrittenIs port was history (upload_finished page finished)
finished_written port was history page (Ok number) = tt
finished_written port was history page (Err finish.Stopped) = tt
finished_written port was history page (Err finish.ConfigChanged) = tt
finished_written port was history page (Err (finish.QueueFull permit set)) = tt
finished_written port was history page (Err (finish.Exhausted permit set)) = tt
finished_written port was history page (Err (finish.Memory permit set)) = tt

pub ticket_written : (port : ℕ) (was : PortStatus) (history : List Happening) (number : ℕ) (page : PageValue) (state : TicketState)
    → WrittenIs port was history (ticket_told number page state)
ticket_written port was history number page ticket.Waiting = tt
ticket_written port was history number page ticket.Durable = tt
ticket_written port was history number page ticket.Unsure = tt

pub upload_returned : (port : ℕ) (was : PortStatus) (before history : List Happening) (permit : UploadGrant) (own : Rest)
    → ReturnsTo port before (held.Upload permit) own → Rests port was history own
upload_returned port was before history permit rest.Lost is = inr tt
upload_returned port was before history permit (rest.Failed why) is = inr tt
upload_returned port was before history permit (rest.Ready page) is = absurd is
upload_returned port was before history permit rest.Off is = absurd is
upload_returned port was before history permit (rest.ReadyLocked page) is = absurd is
upload_returned port was before history permit (rest.ReadyEmpty page) is = absurd is
upload_returned port was before history permit (rest.Mismatch why page) is = absurd is

pub download_returned : (port : ℕ) (was : PortStatus) (wants : Wanted) (before : List Happening) (permit : ℕ) (own : Rest)
    → ReturnsTo port before (held.Download permit) own → Rests port was (Did wants (input.Reply reply.EndedDownload) ∷ before) own
download_returned port was wants before permit rest.Lost is = inr tt
download_returned port was wants before permit (rest.Failed why) is = inr tt
download_returned port was wants before permit (rest.Ready page) is = inr is
download_returned port was wants before permit rest.Off is = absurd is
download_returned port was wants before permit (rest.ReadyLocked page) is = absurd is
download_returned port was wants before permit (rest.ReadyEmpty page) is = absurd is
download_returned port was wants before permit (rest.Mismatch why page) is = absurd is
