-- How a port settles, by the history.
use Rattle.iol_port.specs.Stage.{Settled, Paging, Attending, Exchanging, To, Start}
use Rattle.iol_port.specs.Wanted.{Wanted, ThePage, AnswerTo, wanted}
use Rattle.iol_port.specs.History.{Happening, Did}
use Rattle.iol_link.specs.declared.messages.Request.{Request}
use Rattle.iol_port.specs.declared.call.Reply.{Reply}
use Rattle.iol_transfer.specs.Machine.{Machine, Outcome, More, Whole, Fault, step}
use Rattle.iol_transfer.specs.Download.{Sender}
use Rattle.iol_port.specs.Heard.{page_heard, settled_with, found_by, judged, resumed, is_under, decided, attended, upload_begun}
use Rattle.iol_port.specs.Heard.{download_begun, upload_finished, ticket_told}
use Rattle.iol_port.specs.declared.stage.Rest.{Rest}
use Rattle.iol_port.specs.declared.stage.FoundDevice.{FoundDevice}
use Rattle.iol_port.specs.declared.stage.PageFor.{PageFor}
use Rattle.iol_port.specs.declared.stage.AttendFor.{AttendFor}
use Rattle.iol_port.specs.declared.stage.ExchangeFor.{ExchangeFor}
use Rattle.std.proofs.Common.{◌≡◌, inl, inr, ℕ, Bool, true, false, if◌then◌else◌, nat_lt, List, [], ◌∷◌, refl}
use Rattle.std.specs.Prelude.{Option, Some, None, Result, Ok, Err, ◌&&◌, ◌==◌, not, length, slice_index}
use Rattle.iol_types.specs.Config.{restores}
use Rattle.iol_link.specs.Reading.{answer_of}
use Rattle.iol_link.specs.declared.messages.Answer.{Answer}
use Rattle.iol_link.specs.declared.messages.Answer.TheVariants as answer
use Rattle.iol_link.specs.declared.faults.IsduFault.{IsduFault}
use Rattle.iol_link.specs.Page.{PageValue, page_of}
use Rattle.iol_link.specs.Validation.{ident_fault}
use Rattle.iol_link.specs.declared.validation.IdentFault.{IdentFault}
use Rattle.arrayvec.specs.ArrayVec.{ArrayVec}
use Rattle.iol_transfer.specs.declared.fault.TransferFault.TheVariants as transfer
use Rattle.iol_port.specs.declared.fault.PortFault.TheVariants as fault
use Rattle.iol_core.specs.declared.permit.UploadGrant.{UploadGrant}
use Rattle.iol_core.specs.declared.port.Work.{Work}
use Rattle.iol_core.specs.declared.upload.FinishFault.{FinishFault}
use Rattle.iol_core.specs.declared.upload.FinishFault.TheVariants as finish
use Rattle.iol_core.specs.declared.ticket.TicketState.TheVariants as ticket
use Rattle.iol_port.specs.Answers.{failed, state_read, checksum_read, upload_ended, exchanged, uploaded, upload_answered, Sent, GoesOn}
use Rattle.iol_port.specs.Answers.{Done, Ends, sent, downloaded, download_answered}
use Rattle.iol_port.specs.Decision.{decide}
use Rattle.iol_port.specs.declared.action.Input.TheVariants as input
use Rattle.iol_port.specs.declared.call.Reply.TheVariants as reply
use Rattle.iol_port.specs.declared.decision.Decision.{Decision}
use Rattle.iol_port.specs.declared.decision.Decision.TheVariants as decision
use Rattle.iol_port.specs.declared.stage.Rest.TheVariants as rest
use Rattle.iol_port.specs.declared.stage.PageFor.TheVariants as page_for
use Rattle.iol_port.specs.declared.stage.AttendFor.TheVariants as attend
use Rattle.iol_port.specs.declared.stage.ExchangeFor.TheVariants as exchange
use Rattle.iol_core.specs.declared.ticket.TicketState.{TicketState}
use Rattle.iol_core.specs.declared.upload.PermitFault.{PermitFault}
use Rattle.iol_core.specs.declared.download.DownloadBegun.{DownloadBegun}
use Rattle.iol_core.specs.declared.download.DownloadFault.{DownloadFault}
use Rattle.iol_transfer.specs.Property.{PropertyValue}
use Rattle.std.proofs.Common.{◌-◌, arith}
use Rattle.std.proofs.lemmas.Bool.Decides.{nat_tests}
use Rattle.iol_transfer.specs.Property.{property_of}
use Rattle.iol_transfer.specs.Upload.{number_of}
use Rattle.iol_transfer.specs.declared.repeats.TheConstants.{MOST_REQUESTS}
use Rattle.iol_port.specs.Laws.{last_work}
use Rattle.iol_link.specs.declared.messages.Answer.TheVariants.{ReadOk, Busy}
use Rattle.iol_types.specs.Config.{is_manual}
use Rattle.iol_port.specs.Laws.{IsKnown}
use Rattle.iol_port.specs.Status.{status_of, status_at_rest}
use Rattle.iol_port.specs.declared.status.PortStatus.{PortStatus}
use Rattle.iol_port.proofs.Telling.{Said}
use Rattle.iol_port.proofs.Knowing.{IsFound, Lands, KnownAt, KnownPaging, KnownAttending, KnownExchanging, KnownIs, NextKnown, IsOtherReply}
use Rattle.iol_port.proofs.Knowing.{known_replied, known_answered, found_answered, last_said}

-- ---- answers

state_known : (was : PortStatus) (found : FoundDevice) (left : ℕ) (request : Request) (before : List Happening) (octets : ArrayVec ℕ)
    (heard : Result Answer IsduFault)
    → IsFound found before → answer_of octets.items ≡ heard
    → KnownIs was (Did (AnswerTo request) (input.Octets octets) ∷ before) (state_read found left heard)
state_known was found left request before octets (Ok (answer.ReadOk values)) is read = by (length values.items == 1)
  where
    by : (test : Bool) → KnownIs was (Did (AnswerTo request) (input.Octets octets) ∷ before)
        (if test then Exchanging (exchange.ReadingChecksum found (property_of (slice_index values.items 0)) MOST_REQUESTS)
        else failed (fault.Transfer transfer.Unexpected))
    by true = found_answered found request octets (ReadOk values) before is read
    by false = inr tt
state_known was found left request before octets (Ok answer.Busy) is read = by (nat_lt 1 left)
  where
    by : (test : Bool) → KnownIs was (Did (AnswerTo request) (input.Octets octets) ∷ before)
        (if test then Exchanging (exchange.ReadingState found (left - 1)) else failed (fault.Transfer transfer.Busy))
    by true = found_answered found request octets Busy before is read
    by false = inr tt
state_known was found left request before octets other is read = inr tt

checksum_known : (was : PortStatus) (found : FoundDevice) (property : PropertyValue) (left : ℕ) (request : Request)
    (before : List Happening)
    (octets : ArrayVec ℕ)
    (heard : Result Answer IsduFault) → IsFound found before → answer_of octets.items ≡ heard
    → KnownIs was (Did (AnswerTo request) (input.Octets octets) ∷ before) (checksum_read found property left heard)
checksum_known was found property left request before octets (Ok (answer.ReadOk values)) is read = by (length values.items == 4)
  where
    by : (test : Bool) → KnownIs was (Did (AnswerTo request) (input.Octets octets) ∷ before)
        (if test then Attending (attend.Confirming found property (number_of values.items))
        else failed (fault.Transfer transfer.Unexpected))
    by true = found_answered found request octets (ReadOk values) before is read
    by false = inr tt
checksum_known was found property left request before octets (Ok answer.Busy) is read = by (nat_lt 1 left)
  where
    by : (test : Bool) → KnownIs was (Did (AnswerTo request) (input.Octets octets) ∷ before)
        (if test then Exchanging (exchange.ReadingChecksum found property (left - 1)) else failed (fault.Transfer transfer.Busy))
    by true = found_answered found request octets Busy before is read
    by false = inr tt
checksum_known was found property left request before octets other is read = inr tt

ended_known : (was : PortStatus) (page : PageValue) (left : ℕ) (request : Request) (before : List Happening) (octets : ArrayVec ℕ)
    (heard : Result Answer IsduFault)
    → IsKnown page before → answer_of octets.items ≡ heard
    → KnownIs was (Did (AnswerTo request) (input.Octets octets) ∷ before) (upload_ended page left heard)
ended_known was page left request before octets (Ok answer.WriteOk) is read =
    inr (known_answered page request octets answer.WriteOk before is read)
ended_known was page left request before octets (Ok answer.Busy) is read = by (nat_lt 1 left)
  where
    by : (test : Bool) → KnownIs was (Did (AnswerTo request) (input.Octets octets) ∷ before)
        (if test then Exchanging (exchange.EndingUpload page (left - 1)) else failed (fault.Transfer transfer.Busy))
    by true = known_answered page request octets Busy before is read
    by false = inr tt
ended_known was page left request before octets other is read = inr tt

pub exchanged_known : (was : PortStatus) (what : ExchangeFor) (request : Request) (before : List Happening) (octets : ArrayVec ℕ)
    → KnownExchanging before what
    → KnownIs was (Did (AnswerTo request) (input.Octets octets) ∷ before) (exchanged what (answer_of octets.items))
exchanged_known was (exchange.ReadingState found left) request before octets is = state_known was found left request before octets _ is refl
exchanged_known was (exchange.ReadingChecksum found property left) request before octets is =
    checksum_known was found property left request before octets _ is refl
exchanged_known was (exchange.EndingUpload page left) request before octets is = ended_known was page left request before octets _ is refl
exchanged_known was (exchange.Stopping storing) request before octets is = inr tt
exchanged_known was exchange.Yielding request before octets is = tt

pub upload_known : (was : PortStatus) (grant : UploadGrant) (page : PageValue) (upload : Machine) (request : Request)
    (before : List Happening) (octets : ArrayVec ℕ)
    (heard : Result Answer IsduFault) → IsKnown page before → answer_of octets.items ≡ heard
    → KnownIs was (Did (AnswerTo request) (input.Octets octets) ∷ before) (upload_answered grant page upload heard)
upload_known was grant page upload request before octets (Err why) is read = tt
upload_known was grant page upload request before octets (Ok said) is read = by (step upload said)
  where
    by : (outcome : Outcome) → KnownIs was (Did (AnswerTo request) (input.Octets octets) ∷ before) (uploaded grant page outcome)
    by (More next) = known_answered page request octets said before is read
    by (Whole set) = known_answered page request octets said before is read
    by (Fault why) = tt

pub download_known : (was : PortStatus) (permit : ℕ) (page : PageValue) (download : Sender) (request : Request) (before : List Happening)
    (octets : ArrayVec ℕ)
    (heard : Result Answer IsduFault) → IsKnown page before → answer_of octets.items ≡ heard
    → KnownIs was (Did (AnswerTo request) (input.Octets octets) ∷ before) (download_answered permit page download heard)
download_known was permit page download request before octets (Err why) is read = tt
download_known was permit page download request before octets (Ok said) is read = by (sent download said)
  where
    by : (now : Sent) → KnownIs was (Did (AnswerTo request) (input.Octets octets) ∷ before) (downloaded permit page now)
    by (GoesOn next) = known_answered page request octets said before is read
    by Done = known_answered page request octets said before is read
    by (Ends why) = tt

-- ---- pages and work

found_known : (was : PortStatus) (work : Work) (connection : ℕ) (octets : List ℕ) (before : List Happening) → last_work before ≡ Some work
    → is_manual work.config.mode ≡ true → ident_fault work.config (page_of octets) ≡ None
    → KnownIs was (Did ThePage (input.Page connection octets) ∷ before) (found_by work connection (page_of octets))
found_known was work connection octets before said manual wanted = by (restores work.config.validation)
  where
    by : (test : Bool) → KnownIs was (Did ThePage (input.Page connection octets) ∷ before)
        (if test then Exchanging (exchange.ReadingState
        (record { work = work; page = page_of octets; connection = connection }) MOST_REQUESTS)
        else Settled (rest.Ready (page_of octets)))
    by true = record { conversation = []; shown = (refl, refl, refl); manual = manual; wanted = wanted; said = said }
    by false = inr (record {
      connection = connection;
      conversation = [];
      work = work;
      last = work;
      shown = (refl, refl, refl);
      earlier = last_said work before said;
      manual = manual;
      wanted = wanted;
      said = said;
      revision = refl;
    })

judged_known : (was : PortStatus) (work : Work) (connection : ℕ) (octets : List ℕ) (before : List Happening) (why : Option IdentFault)
    → last_work before ≡ Some work
    → is_manual work.config.mode ≡ true → ident_fault work.config (page_of octets) ≡ why
    → KnownIs was (Did ThePage (input.Page connection octets) ∷ before) (judged work connection (page_of octets) why)
judged_known was work connection octets before None said manual is = found_known was work connection octets before said manual is
judged_known was work connection octets before (Some why) said manual is =
    inr (record { connection = connection; work = work; shown = (refl, refl, refl); manual = manual; fault = is; said = said })

pub page_known : (what : PageFor) (connection : ℕ) (octets : List ℕ) (before : List Happening) → KnownPaging before what
    → NextKnown (status_of (Paging what)) (Did ThePage (input.Page connection octets) ∷ before)
    (page_heard what connection (page_of octets))
page_known (page_for.Comparing work own) connection octets before said = by (settled_with own (page_of octets))
  where
    by : (test : Bool) → NextKnown (status_at_rest own) (Did ThePage (input.Page connection octets) ∷ before)
        (if test then To (Settled own) else Start work)
    by true = inl refl
    by false = said
page_known (page_for.Identifying work) connection octets before is =
    judged_known (status_of (Paging (page_for.Identifying work))) work connection octets before
    (ident_fault work.config (page_of octets)) is.0 is.1 refl

resumed_known : (port : ℕ) (own : Rest) (work : Work) (before : List Happening)
    → NextKnown (status_at_rest own) (Said port (Some work) ∷ before) (resumed own work)
resumed_known port rest.Off work before = inl refl
resumed_known port rest.Lost work before = refl
resumed_known port (rest.Failed why) work before = refl
resumed_known port own work before = refl

-- what was found is known once the core has said the same revision
confirmed_known : (port : ℕ) (found : FoundDevice) (work : Work) (before : List Happening) → IsFound found before
    → found.work.revision ≡ work.revision
    → IsKnown found.page (Said port (Some work) ∷ before)
confirmed_known port found work before is same = record {
  connection = found.connection;
  conversation = is.conversation;
  work = found.work;
  last = work;
  shown = is.shown;
  earlier = inr (last_said found.work before is.said);
  manual = is.manual;
  wanted = is.wanted;
  said = refl;
  revision = same;
}

decided_known : (was : PortStatus) (port : ℕ) (found : FoundDevice) (checksum : ℕ) (work : Work) (before : List Happening) (now : Decision)
    → IsFound found before
    → found.work.revision ≡ work.revision → KnownIs was (Said port (Some work) ∷ before) (decided found checksum now)
decided_known was port found checksum work before decision.Ready is same = inr (confirmed_known port found work before is same)
decided_known was port found checksum work before decision.ReadyLocked is same = inr (confirmed_known port found work before is same)
decided_known was port found checksum work before decision.ReadyEmpty is same = inr (confirmed_known port found work before is same)
decided_known was port found checksum work before decision.Upload is same = confirmed_known port found work before is same
decided_known was port found checksum work before decision.Download is same = confirmed_known port found work before is same

pub attended_known : (port : ℕ) (started : Option ℕ) (requested : Bool) (what : AttendFor) (work : Option Work) (before : List Happening)
    → KnownAttending before what
    → NextKnown (status_of (Attending what)) (Said port work ∷ before) (attended started requested what work)
attended_known port started requested what None before is = inr (inl refl)
attended_known port started requested (attend.Waking own) (Some work) before is = by (is_under started work.revision && not requested)
  where
    by : (test : Bool) → NextKnown (status_at_rest own) (Said port (Some work) ∷ before) (if test then resumed own work else Start work)
    by true = resumed_known port own work before
    by false = refl
attended_known port started requested (attend.Confirming found property checksum) (Some work) before is =
    by (found.work.revision == work.revision) refl
  where
    by : (test : Bool) → (found.work.revision == work.revision) ≡ test
        → NextKnown (status_of (Attending (attend.Confirming found property checksum))) (Said port (Some work) ∷ before)
        (if test then To (decided found checksum (decide work.config.validation property.state property.flag checksum work.checksum))
        else Start work)
    by true same = decided_known _ port found checksum work before _ is (grind (arith, nat_tests, same))
    by false same = refl
attended_known port started requested attend.Restarting (Some work) before is = refl

-- ---- replies

pub begun_known : (was : PortStatus) (page : PageValue) (wants : Wanted) (begins : Result UploadGrant PermitFault) (before : List Happening)
    → IsKnown page before
    → KnownIs was (Did wants (input.Reply (reply.BegunUpload begins)) ∷ before) (upload_begun page begins)
begun_known was page wants (Ok grant) before is = known_replied page wants (reply.BegunUpload (Ok grant)) before tt is
begun_known was page wants (Err why) before is = inr tt

pub download_begun_known : (was : PortStatus) (page : PageValue) (wants : Wanted) (begins : Result DownloadBegun DownloadFault)
    (before : List Happening)
    → IsKnown page before → KnownIs was (Did wants (input.Reply (reply.BegunDownload begins)) ∷ before) (download_begun page begins)
download_begun_known was page wants (Ok begins) before is = known_replied page wants (reply.BegunDownload (Ok begins)) before tt is
download_begun_known was page wants (Err why) before is = inr tt

pub finished_known : (was : PortStatus) (page : PageValue) (wants : Wanted) (finished : Result ℕ FinishFault) (before : List Happening)
    → IsKnown page before
    → KnownIs was (Did wants (input.Reply (reply.FinishedUpload finished)) ∷ before) (upload_finished page finished)
finished_known was page wants (Ok number) before is = known_replied page wants (reply.FinishedUpload (Ok number)) before tt is
finished_known was page wants (Err finish.Stopped) before is = tt
finished_known was page wants (Err finish.ConfigChanged) before is = tt
finished_known was page wants (Err (finish.QueueFull permit set)) before is =
    known_replied page wants (reply.FinishedUpload (Err (finish.QueueFull permit set))) before tt is
finished_known was page wants (Err (finish.Exhausted permit set)) before is = tt
finished_known was page wants (Err (finish.Memory permit set)) before is = tt

pub ticket_known : (was : PortStatus) (number : ℕ) (page : PageValue) (wants : Wanted) (state : TicketState) (before : List Happening)
    → IsKnown page before
    → KnownIs was (Did wants (input.Reply (reply.Ticket state)) ∷ before) (ticket_told number page state)
ticket_known was number page wants ticket.Waiting before is = known_replied page wants (reply.Ticket ticket.Waiting) before tt is
ticket_known was number page wants ticket.Durable before is = known_replied page wants (reply.Ticket ticket.Durable) before tt is
ticket_known was number page wants ticket.Unsure before is = tt

pub returned_known : (was : PortStatus) (wants : Wanted) (heard : Reply) (own : Rest) (before : List Happening) → IsOtherReply heard
    → KnownAt before own
    → Lands was (Did wants (input.Reply heard) ∷ before) own
returned_known was wants heard rest.Lost before other is = inr tt
returned_known was wants heard (rest.Failed why) before other is = inr tt
returned_known was wants heard (rest.Ready page) before other is = inr (known_replied page wants heard before other is)
returned_known was wants heard rest.Off before other is = absurd is
returned_known was wants heard (rest.ReadyLocked page) before other is = absurd is
returned_known was wants heard (rest.ReadyEmpty page) before other is = absurd is
returned_known was wants heard (rest.Mismatch why page) before other is = absurd is
