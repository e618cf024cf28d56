-- What is heard leaves what holds at each stage, by the history.
use Rattle.std.proofs.Common.{◌≡◌, inl, inr, ℕ, Bool, true, false, if◌then◌else◌, nat_lt, List, [], ◌∷◌, refl, sym, ap, ◌∙◌, subst}
use Rattle.std.specs.Prelude.{Option, Some, None, Result, Ok, Err, ◌&&◌, ◌==◌, not}
use Rattle.iol_types.specs.Config.{restores}
use Rattle.iol_types.specs.DataSet.{SetValue}
use Rattle.iol_link.specs.Reading.{answer_of}
use Rattle.iol_link.specs.declared.messages.Answer.{Answer}
use Rattle.iol_link.specs.declared.messages.Answer.TheVariants as answer
use Rattle.iol_link.specs.declared.faults.IsduFault.{IsduFault}
use Rattle.iol_link.specs.Page.{PageValue, page_of}
use Rattle.iol_link.specs.Validation.{ident_fault}
use Rattle.iol_link.specs.declared.validation.IdentFault.{IdentFault}
use Rattle.iol_transfer.specs.Machine.{Machine, Outcome, More, Whole, Fault, step}
use Rattle.iol_transfer.specs.Download.{Sender, Sends, Opening, Parameter, Closing}
use Rattle.arrayvec.specs.ArrayVec.{ArrayVec}
use Rattle.iol_types.specs.DataSet.{Entry}
use Rattle.iol_transfer.specs.declared.fault.TransferFault.TheVariants as transfer
use Rattle.iol_core.specs.declared.permit.UploadGrant.{UploadGrant}
use Rattle.iol_core.specs.declared.port.Work.{Work}
use Rattle.iol_core.specs.declared.upload.FinishFault.{FinishFault}
use Rattle.iol_core.specs.declared.upload.FinishFault.TheVariants as finish
use Rattle.iol_core.specs.declared.ticket.TicketState.TheVariants as ticket
use Rattle.iol_port.specs.Answers.{uploaded, upload_answered, Sent, GoesOn}
use Rattle.iol_port.specs.Answers.{Done, Ends, sent, sent_well, downloaded, download_answered}
use Rattle.iol_port.specs.Calls.{IsHandedBack}
use Rattle.iol_port.specs.Decision.{decide}
use Rattle.iol_port.specs.History.{ComesOf, Happening, Did}
use Rattle.iol_port.specs.Stage.{Settled, BeginningUpload, BeginningDownload, Exchanging, IsStage, Next, To, Start}
use Rattle.iol_port.specs.Wanted.{ThePage, AnswerTo, ReplyTo, wanted}
use Rattle.iol_port.specs.declared.action.Input.TheVariants as input
use Rattle.iol_port.specs.declared.call.Reply.TheVariants as reply
use Rattle.iol_port.specs.declared.decision.Decision.{Decision}
use Rattle.iol_port.specs.declared.decision.Decision.TheVariants as decision
use Rattle.iol_port.specs.declared.stage.FoundDevice.{FoundDevice}
use Rattle.iol_port.specs.declared.stage.Rest.{Rest}
use Rattle.iol_port.specs.declared.stage.Rest.TheVariants as rest
use Rattle.iol_port.specs.declared.stage.PageFor.{PageFor}
use Rattle.iol_port.specs.declared.stage.PageFor.TheVariants as page_for
use Rattle.iol_port.specs.declared.stage.AttendFor.{AttendFor}
use Rattle.iol_port.specs.declared.stage.AttendFor.TheVariants as attend
use Rattle.iol_port.specs.declared.stage.ExchangeFor.TheVariants as exchange
use Rattle.iol_core.specs.declared.ticket.TicketState.{TicketState}
use Rattle.iol_core.specs.declared.upload.PermitFault.{PermitFault}
use Rattle.iol_core.specs.declared.download.DownloadBegun.{DownloadBegun}
use Rattle.iol_core.specs.declared.download.DownloadFault.{DownloadFault}
use Rattle.iol_transfer.specs.Property.{PropertyValue}
use Rattle.iol_port.specs.Heard.{page_heard, settled_with, found_by, judged, resumed, is_under, decided, attended, upload_begun}
use Rattle.iol_port.specs.Heard.{download_begun, upload_finished, ticket_told}
use Rattle.std.proofs.Common.{◌++◌, ◌+◌, ◌-◌, ◌<◌, arith, lit<}
use Rattle.std.proofs.lemmas.Bool.{ltb-true}
use Rattle.std.proofs.lemmas.Bool.Decides.{nat_tests}
use Rattle.iol_transfer.specs.Upload.{IsFinished}
use Rattle.iol_transfer.specs.Machine.{asked, answered as next_exchange}
use Rattle.iol_transfer.specs.Download.{sent_by, sends_after, IsDownloadStep, answered_to}
use Rattle.iol_transfer.specs.declared.download.DownloadStep.TheVariants as download_step
use Rattle.iol_transfer.specs.declared.upload.UploadStep.TheVariants as upload_step
use Rattle.iol_transfer.specs.declared.repeats.TheConstants.{MOST_REQUESTS}
use Rattle.iol_transfer.proofs.Feeding.{fed-more}
use Rattle.iol_transfer.proofs.Ending.{whole-finished}
use Rattle.iol_transfer.proofs.Sending.{fed-on}
use Rattle.iol_port.specs.Laws.{last_work, HasUploaded, HasFiled, HasExamined}
use Rattle.iol_link.specs.declared.messages.Answer.TheVariants.{ReadOk, Busy}
use Rattle.iol_port.specs.Calls.{Attend, BeginUpload, FinishUpload, AskTicket, BeginDownload}
use Rattle.iol_port.proofs.Stages.{AsksUpload, IsWhole, AsksDownload, PagingIs}
use Rattle.iol_port.proofs.Stages.{AttendingIs, StageIs}

-- what holds after a machine continues
abbrev pub NextIs : ℕ → List Happening → Next → Type 0
NextIs port history (To stage) = StageIs port history stage
NextIs port history (Start work) = last_work history ≡ Some work

-- ---- transfers

pub upload_told : (port : ℕ) (grant : UploadGrant) (page : PageValue) (upload : Machine) (before : List Happening) (octets : ArrayVec ℕ)
    (heard : Result Answer IsduFault)
    → AsksUpload port grant upload before → answer_of octets.items ≡ heard → IsStage (upload_answered grant page upload heard)
    → StageIs port (Did (AnswerTo (asked upload)) (input.Octets octets) ∷ before) (upload_answered grant page upload heard)
upload_told port grant page upload before octets (Err why) is read good = tt
upload_told port grant page upload before octets (Ok said) is read good = by (step upload said) refl good
  where
    by : (outcome : Outcome) → step upload said ≡ outcome → IsStage (uploaded grant page outcome)
        → StageIs port (Did (AnswerTo (asked upload)) (input.Octets octets) ∷ before) (uploaded grant page outcome)
    by (More next) goes good = record {
      conversation = is.conversation ++ next_exchange upload said ∷ [];
      uploaded = (is.conversation, said, is.uploaded, read, refl);
      since = fed-more upload next said upload_step.More goes grant.vendor grant.device is.conversation is.since;
    }
    by (Whole set) goes good = record {
      conversation = is.conversation ++ next_exchange upload said ∷ [];
      uploaded = (is.conversation, said, is.uploaded, read, refl);
      finished = whole-finished grant.vendor grant.device is.conversation upload said set is.since goes good.set_is;
    }
    by (Fault why) goes good = tt

open-closing : Opening ≡ Closing → ⊥
open-closing same = cc

goes-is : (one other : Sender) → GoesOn one ≡ GoesOn other → one ≡ other
goes-is one other same = cc

-- a download that continues makes its next step
pub sent_step : (download next : Sender) (said : Answer) → sent download said ≡ GoesOn next
    → IsDownloadStep download said download_step.More next
sent_step download next answer.WriteOk goes = by download.sends goes refl
  where
    by : (sends : Sends) → sent_well download.set sends ≡ GoesOn next → download.sends ≡ sends
        → IsDownloadStep download answer.WriteOk download_step.More next
    by Opening goes at = inr (
      refl,
      (λ closing. open-closing (sym at ∙ closing)),
      sym (goes-is _ next goes) ∙ ap (λ s. record { set = download.set; sends = sends_after download.set s; busy = 0 }) (sym at),
    )
    by (Parameter entry behind) goes at = inr (
      refl,
      (λ closing. never entry behind (sym at ∙ closing)),
      sym (goes-is _ next goes) ∙ ap (λ s. record { set = download.set; sends = sends_after download.set s; busy = 0 }) (sym at),
    )
      where
        never : (entry : Entry) (behind : List Entry) → Parameter entry behind ≡ Closing → ⊥
        never entry behind same = cc
    by Closing goes at = absurd cc
sent_step download next answer.Busy goes = by (nat_lt (download.busy + 1) MOST_REQUESTS) refl goes
  where
    by : (test : Bool) → nat_lt (download.busy + 1) MOST_REQUESTS ≡ test
        → (if test then GoesOn (record { set = download.set; sends = download.sends; busy = download.busy + 1 }) else Ends transfer.Busy)
        ≡ GoesOn next
        → IsDownloadStep download answer.Busy download_step.More next
    by true few goes = inl (refl, ltb-true _ _ few, sym (goes-is _ next goes))
    by false few goes = absurd cc
sent_step download next (answer.WriteFault error additional) goes = absurd cc
sent_step download next (answer.ReadOk octets) goes = absurd cc
sent_step download next (answer.ReadFault error additional) goes = absurd cc

pub download_told : (port permit : ℕ) (page : PageValue) (download : Sender) (before : List Happening) (octets : ArrayVec ℕ)
    (heard : Result Answer IsduFault)
    → AsksDownload port download before → answer_of octets.items ≡ heard
    → StageIs port (Did (AnswerTo (sent_by download.sends)) (input.Octets octets) ∷ before) (download_answered permit page download heard)
download_told port permit page download before octets (Err why) is read = tt
download_told port permit page download before octets (Ok said) is read = by (sent download said) refl
  where
    by : (now : Sent) → sent download said ≡ now
        → StageIs port (Did (AnswerTo (sent_by download.sends)) (input.Octets octets) ∷ before) (downloaded permit page now)
    by (GoesOn next) goes = record {
      set = is.set;
      conversation = is.conversation ++ answered_to download said ∷ [];
      downloaded = (is.conversation, said, is.downloaded, read, refl);
      since = fed-on download next said download_step.More (sent_step download next said goes) is.set is.conversation is.since;
    }
    by Done goes = tt
    by (Ends why) goes = tt

-- ---- pages and work

found_told : (port : ℕ) (work : Work) (connection : ℕ) (octets : List ℕ) (before : List Happening) → last_work before ≡ Some work
    → ident_fault work.config (page_of octets) ≡ None
    → StageIs port (Did ThePage (input.Page connection octets) ∷ before) (found_by work connection (page_of octets))
found_told port work connection octets before said wanted = by (restores work.config.validation)
  where
    by : (test : Bool) → StageIs port (Did ThePage (input.Page connection octets) ∷ before)
        (if test then Exchanging (exchange.ReadingState
        (record { work = work; page = page_of octets; connection = connection }) MOST_REQUESTS)
        else Settled (rest.Ready (page_of octets)))
    by true = record {
      times = 0;
      found_is = record { shown = (refl, refl, refl); said = said; wanted = wanted };
      count = omega arith;
      more = lit< tt;
    }
    by false = tt

judged_told : (port : ℕ) (work : Work) (connection : ℕ) (octets : List ℕ) (before : List Happening) (why : Option IdentFault)
    → last_work before ≡ Some work
    → ident_fault work.config (page_of octets) ≡ why
    → StageIs port (Did ThePage (input.Page connection octets) ∷ before) (judged work connection (page_of octets) why)
judged_told port work connection octets before None said is = found_told port work connection octets before said is
judged_told port work connection octets before (Some why) said is = tt

pub page_told : (port : ℕ) (what : PageFor) (connection : ℕ) (octets : List ℕ) (before : List Happening) → PagingIs before what
    → NextIs port (Did ThePage (input.Page connection octets) ∷ before) (page_heard what connection (page_of octets))
page_told port (page_for.Comparing work own) connection octets before said = by (settled_with own (page_of octets))
  where
    by : (test : Bool) → NextIs port (Did ThePage (input.Page connection octets) ∷ before) (if test then To (Settled own) else Start work)
    by true = tt
    by false = said
page_told port (page_for.Identifying work) connection octets before said =
    judged_told port work connection octets before (ident_fault work.config (page_of octets)) said refl

-- the core says what is to be done
abbrev pub Said : ℕ → Option Work → Happening
Said port work = Did (ReplyTo (Attend port)) (input.Reply (reply.Attended work))

resumed_told : (port : ℕ) (own : Rest) (work : Work) (before : List Happening)
    → NextIs port (Said port (Some work) ∷ before) (resumed own work)
resumed_told port rest.Off work before = tt
resumed_told port rest.Lost work before = refl
resumed_told port (rest.Failed why) work before = refl
resumed_told port own work before = refl

decided_told : (port : ℕ) (found : FoundDevice) (property : PropertyValue) (checksum : ℕ) (work : Work) (before : List Happening)
    (now : Decision)
    → HasExamined found property checksum before → found.work.revision ≡ work.revision
    → decide work.config.validation property.state property.flag checksum work.checksum ≡ now
    → StageIs port (Said port (Some work) ∷ before) (decided found checksum now)
decided_told port found property checksum work before decision.Ready is same now = tt
decided_told port found property checksum work before decision.ReadyLocked is same now = tt
decided_told port found property checksum work before decision.ReadyEmpty is same now = tt
decided_told port found property checksum work before decision.Upload is same now =
    (checksum, record { property = property; examined = is; revision = same; decided = now })
decided_told port found property checksum work before decision.Download is same now =
    record { property = property; examined = is; revision = same; decided = now }

pub attended_told : (port : ℕ) (started : Option ℕ) (requested : Bool) (what : AttendFor) (work : Option Work) (before : List Happening)
    → AttendingIs before what
    → NextIs port (Said port work ∷ before) (attended started requested what work)
attended_told port started requested what None before is = tt
attended_told port started requested (attend.Waking own) (Some work) before is = by (is_under started work.revision && not requested)
  where
    by : (test : Bool) → NextIs port (Said port (Some work) ∷ before) (if test then resumed own work else Start work)
    by true = resumed_told port own work before
    by false = refl
attended_told port started requested (attend.Confirming found property checksum) (Some work) before is =
    by (found.work.revision == work.revision) refl
  where
    by : (test : Bool) → (found.work.revision == work.revision) ≡ test → NextIs port (Said port (Some work) ∷ before)
        (if test then To (decided found checksum (decide work.config.validation property.state property.flag checksum work.checksum))
        else Start work)
    by true same = decided_told port found property checksum work before _ is (grind (arith, nat_tests, same)) refl
    by false same = refl
attended_told port started requested attend.Restarting (Some work) before is = refl

-- ---- permits

pub begun_told : (port : ℕ) (found : FoundDevice) (begins : Result UploadGrant PermitFault) (before : List Happening)
    → ComesOf (wanted port (BeginningUpload found)) (input.Reply (reply.BegunUpload begins))
    → StageIs port (Did (wanted port (BeginningUpload found)) (input.Reply (reply.BegunUpload begins)) ∷ before)
    (upload_begun found.page begins)
begun_told port found (Ok grant) before comes =
    let vendor = comes.vendor_is in let device = comes.device_is in let connection = comes.connection_is in
    record {
      conversation = [];
      uploaded = (refl, (λ j. ReplyTo (BeginUpload port (sym vendor j) (sym device j) (sym connection j))), refl);
      since = refl;
    }
begun_told port found (Err why) before comes = tt

pub download_begun_told : (port : ℕ) (found : FoundDevice) (checksum : ℕ) (begins : Result DownloadBegun DownloadFault)
    (before : List Happening)
    → ComesOf (wanted port (BeginningDownload found checksum)) (input.Reply (reply.BegunDownload begins))
    → StageIs port (Did (wanted port (BeginningDownload found checksum)) (input.Reply (reply.BegunDownload begins)) ∷ before)
    (download_begun found.page begins)
download_begun_told port found checksum (Ok begins) before comes =
    let vendor = comes.vendor_is in let device = comes.device_is in
    record {
      set = begins.set.value;
      conversation = [];
      downloaded = (comes.set_is, refl, (checksum, (λ j. ReplyTo (BeginDownload port (sym vendor j) (sym device j) checksum))), refl);
      since = record { set_is = refl; sent = []; before = []; order = refl; is = refl; few = lit< tt; follows = refl };
    }
download_begun_told port found checksum (Err why) before comes = tt

pub finished_told : (port : ℕ) (grant : UploadGrant) (page : PageValue) (set : SetValue) (finished : Result ℕ FinishFault)
    (before : List Happening)
    → IsWhole port grant set before → IsHandedBack grant set finished
    → StageIs port (Did (ReplyTo (FinishUpload grant set)) (input.Reply (reply.FinishedUpload finished)) ∷ before)
    (upload_finished page finished)
finished_told port grant page set (Ok number) before is back = (refl, (grant, set, is.conversation, refl, is.uploaded, is.finished))
finished_told port grant page set (Err finish.Stopped) before is back = tt
finished_told port grant page set (Err finish.ConfigChanged) before is back = tt
finished_told port grant page set (Err (finish.QueueFull permit own)) before is back = record {
  conversation = is.conversation;
  uploaded = subst (λ p. HasUploaded port p is.conversation before) (sym back.0) is.uploaded;
  finished = subst (λ p. IsFinished p.vendor p.device is.conversation own.value) (sym back.0)
      (subst (λ s. IsFinished grant.vendor grant.device is.conversation s) (sym back.1) is.finished);
}
finished_told port grant page set (Err (finish.Exhausted permit own)) before is back = tt
finished_told port grant page set (Err (finish.Memory permit own)) before is back = tt

pub ticket_told_is : (port number : ℕ) (page : PageValue) (state : TicketState) (before : List Happening) → HasFiled port number before
    → StageIs port (Did (ReplyTo (AskTicket number)) (input.Reply (reply.Ticket state)) ∷ before) (ticket_told number page state)
ticket_told_is port number page ticket.Waiting before is = is
ticket_told_is port number page ticket.Durable before is = (number, refl, is)
ticket_told_is port number page ticket.Unsure before is = tt
