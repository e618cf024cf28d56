-- No permit is with the core between two happenings.
use Rattle.std.proofs.Common.{◌≡◌, ℕ, Bool, true, false, if◌then◌else◌, nat_lt, refl, ap, ◌∙◌, subst}
use Rattle.std.specs.Prelude.{Option, Some, None, Result, Ok, Err, ◌&&◌, ◌==◌, not, length}
use Rattle.iol_types.specs.Config.{is_manual, restores}
use Rattle.iol_link.specs.Reading.{answer_of}
use Rattle.iol_link.specs.declared.messages.Answer.{Answer}
use Rattle.iol_link.specs.declared.messages.Answer.TheVariants as answer
use Rattle.iol_link.specs.declared.faults.IsduFault.{IsduFault}
use Rattle.iol_link.specs.Page.{PageValue, page_of}
use Rattle.iol_link.specs.Validation.{ident_fault}
use Rattle.iol_link.specs.declared.validation.IdentFault.{IdentFault}
use Rattle.iol_transfer.specs.Machine.{Machine, Outcome, More, Whole, Fault, step}
use Rattle.iol_transfer.specs.Download.{Sender}
use Rattle.iol_core.specs.declared.permit.UploadGrant.{UploadGrant}
use Rattle.iol_core.specs.declared.port.Work.{Work}
use Rattle.iol_core.specs.declared.upload.FinishFault.{FinishFault}
use Rattle.iol_core.specs.declared.upload.FinishFault.TheVariants as finish
use Rattle.iol_core.specs.declared.ticket.TicketState.TheVariants as ticket
use Rattle.iol_port.specs.Answers.{again, state_read, checksum_read, upload_ended, exchanged, uploaded, upload_answered, Sent, GoesOn, Done}
use Rattle.iol_port.specs.Answers.{Ends, sent, downloaded, download_answered, answered, RunsOut}
use Rattle.iol_port.specs.Decision.{decide}
use Rattle.iol_port.specs.Heard.{IsFed, fed, moved, at_stage}
use Rattle.iol_port.specs.History.{ComesOf, Happening, Raised, Did, Happens, is_at_hand}
use Rattle.iol_port.specs.Stage.{Stage, Settled, Paging, Attending, BeginningUpload, BeginningDownload, Exchanging, Uploading, Filing}
use Rattle.iol_port.specs.Stage.{machine_at, Filed, Storing, Downloading, Breaking, Returning, Returned, PortValue, Next, To, Start}
use Rattle.iol_port.specs.Wanted.{wanted, after_action}
use Rattle.iol_port.specs.declared.action.Input.{Input}
use Rattle.iol_port.specs.declared.action.Input.TheVariants as input
use Rattle.iol_port.specs.declared.call.Reply.TheVariants as reply
use Rattle.iol_port.specs.declared.decision.Decision.{Decision}
use Rattle.iol_port.specs.declared.decision.Decision.TheVariants as decision
use Rattle.iol_port.specs.declared.stage.FoundDevice.{FoundDevice}
use Rattle.iol_port.specs.declared.stage.Rest.{Rest}
use Rattle.iol_port.specs.declared.stage.Rest.TheVariants as rest
use Rattle.iol_port.specs.declared.stage.PageFor.{PageFor}
use Rattle.iol_port.specs.declared.stage.PageFor.TheVariants as page_for
use Rattle.iol_port.specs.declared.stage.AttendFor.{AttendFor}
use Rattle.iol_port.specs.declared.stage.AttendFor.TheVariants as attend
use Rattle.iol_port.specs.declared.stage.ExchangeFor.{ExchangeFor}
use Rattle.iol_port.specs.declared.stage.ExchangeFor.TheVariants as exchange
use Rattle.iol_port.specs.declared.stage.Held.TheVariants as held
use Rattle.iol_core.specs.declared.ticket.TicketState.{TicketState}
use Rattle.iol_core.specs.declared.upload.PermitFault.{PermitFault}
use Rattle.iol_core.specs.declared.download.DownloadBegun.{DownloadBegun}
use Rattle.iol_core.specs.declared.download.DownloadFault.{DownloadFault}
use Rattle.iol_transfer.specs.Property.{PropertyValue}
use Rattle.iol_port.specs.Heard.{page_heard, paged, settled_with, found_by, judged, resumed, is_under, decided, attended, told}
use Rattle.iol_port.specs.Heard.{upload_begun, download_begun, upload_finished, ticket_told, lost}
use Rattle.iol_port.proofs.Feeding.{fed_is}

-- no permit is with the core, at a stage and after a machine continues
abbrev pub IsAtHand : Stage → Type 0
IsAtHand stage = is_at_hand stage ≡ true

abbrev pub GoesAtHand : Next → Type 0
GoesAtHand (To stage) = IsAtHand stage
GoesAtHand (Start work) = Unit {0}

either : (test : Bool) (one other : Stage) → IsAtHand one → IsAtHand other → IsAtHand (if test then one else other)
either true one other first second = first
either false one other first second = second

goes : (test : Bool) (one other : Next) → GoesAtHand one → GoesAtHand other → GoesAtHand (if test then one else other)
goes true one other first second = first
goes false one other first second = second

again_hand : (left : ℕ) (next : ExchangeFor) → IsAtHand (again left next)
again_hand left next = either (nat_lt 1 left) _ _ refl refl

state_hand : (found : FoundDevice) (left : ℕ) (heard : Result Answer IsduFault) → IsAtHand (state_read found left heard)
state_hand found left (Ok (answer.ReadOk octets)) = either (length octets.items == 1) _ _ refl refl
state_hand found left (Ok answer.Busy) = again_hand left _
state_hand found left other = refl

checksum_hand : (found : FoundDevice) (property : PropertyValue) (left : ℕ) (heard : Result Answer IsduFault)
    → IsAtHand (checksum_read found property left heard)
checksum_hand found property left (Ok (answer.ReadOk octets)) = either (length octets.items == 4) _ _ refl refl
checksum_hand found property left (Ok answer.Busy) = again_hand left _
checksum_hand found property left other = refl

ended_hand : (page : PageValue) (left : ℕ) (heard : Result Answer IsduFault) → IsAtHand (upload_ended page left heard)
ended_hand page left (Ok answer.Busy) = again_hand left _
ended_hand page left other = refl

exchanged_hand : (what : ExchangeFor) (heard : Result Answer IsduFault) → IsAtHand (exchanged what heard)
exchanged_hand (exchange.ReadingState found left) heard = state_hand found left heard
exchanged_hand (exchange.ReadingChecksum found property left) heard = checksum_hand found property left heard
exchanged_hand (exchange.EndingUpload page left) heard = ended_hand page left heard
exchanged_hand (exchange.Stopping storing) heard = refl
exchanged_hand exchange.Yielding heard = refl

uploaded_hand : (grant : UploadGrant) (page : PageValue) (outcome : Outcome) → IsAtHand (uploaded grant page outcome)
uploaded_hand grant page (More upload) = refl
uploaded_hand grant page (Whole set) = refl
uploaded_hand grant page (Fault why) = refl

upload_hand : (grant : UploadGrant) (page : PageValue) (upload : Machine) (heard : Result Answer IsduFault)
    → IsAtHand (upload_answered grant page upload heard)
upload_hand grant page upload (Ok heard) = uploaded_hand grant page (step upload heard)
upload_hand grant page upload (Err why) = refl

downloaded_hand : (port : ℕ) (page : PageValue) (is : Sent) → IsAtHand (downloaded port page is)
downloaded_hand port page (GoesOn download) = refl
downloaded_hand port page Done = refl
downloaded_hand port page (Ends why) = refl

download_hand : (port : ℕ) (page : PageValue) (download : Sender) (heard : Result Answer IsduFault)
    → IsAtHand (download_answered port page download heard)
download_hand port page download (Ok heard) = downloaded_hand port page (sent download heard)
download_hand port page download (Err why) = refl

answered_hand : (stage : Stage) (heard : Result Answer IsduFault) → IsAtHand stage → IsAtHand (answered stage heard)
answered_hand (Exchanging what) heard hand = exchanged_hand what heard
answered_hand (Uploading grant page upload) heard hand = upload_hand grant page upload heard
answered_hand (Downloading port page download) heard hand = download_hand port page download heard
answered_hand (Breaking holder why) heard hand = refl
answered_hand stage heard hand = hand

runs_out_hand : (stage : Stage) (heard : Result Answer IsduFault) (new : Stage) → RunsOut stage heard new → IsAtHand new
runs_out_hand (Uploading grant page upload) heard new out = ap is_at_hand out.1
runs_out_hand stage heard new out = absurd out

found_hand : (work : Work) (connection : ℕ) (page : PageValue) → IsAtHand (found_by work connection page)
found_hand work connection page = either (restores work.config.validation) _ _ refl refl

judged_hand : (work : Work) (connection : ℕ) (page : PageValue) (why : Option IdentFault) → IsAtHand (judged work connection page why)
judged_hand work connection page None = found_hand work connection page
judged_hand work connection page (Some why) = refl

page_hand : (what : PageFor) (connection : ℕ) (page : PageValue) → GoesAtHand (page_heard what connection page)
page_hand (page_for.Comparing work own) connection page = goes (settled_with own page) _ _ refl tt
page_hand (page_for.Identifying work) connection page = judged_hand work connection page (ident_fault work.config page)

paged_hand : (stage : Stage) (connection : ℕ) (page : PageValue) → IsAtHand stage → GoesAtHand (paged stage connection page)
paged_hand (Paging what) connection page hand = page_hand what connection page
paged_hand stage connection page hand = hand

resumed_hand : (own : Rest) (work : Work) → GoesAtHand (resumed own work)
resumed_hand rest.Off work = refl
resumed_hand rest.Lost work = tt
resumed_hand (rest.Failed why) work = tt
resumed_hand own work = refl

decided_hand : (found : FoundDevice) (checksum : ℕ) (is : Decision) → IsAtHand (decided found checksum is)
decided_hand found checksum decision.Ready = refl
decided_hand found checksum decision.ReadyLocked = refl
decided_hand found checksum decision.ReadyEmpty = refl
decided_hand found checksum decision.Upload = refl
decided_hand found checksum decision.Download = refl

attended_hand : (started : Option ℕ) (requested : Bool) (what : AttendFor) (work : Option Work)
    → GoesAtHand (attended started requested what work)
attended_hand started requested what None = refl
attended_hand started requested (attend.Waking own) (Some work) =
    goes (is_under started work.revision && not requested) _ _ (resumed_hand own work) tt
attended_hand started requested (attend.Confirming found property checksum) (Some work) =
    goes (found.work.revision == work.revision) _ _
    (decided_hand found checksum (decide work.config.validation property.state property.flag checksum work.checksum)) tt
attended_hand started requested attend.Restarting (Some work) = tt

told_hand : (started : Option ℕ) (requested : Bool) (stage : Stage) (work : Option Work) → IsAtHand stage
    → GoesAtHand (told started requested stage work)
told_hand started requested (Attending what) work hand = attended_hand started requested what work
told_hand started requested stage work hand = hand

upload_begun_hand : (page : PageValue) (begins : Result UploadGrant PermitFault) → IsAtHand (upload_begun page begins)
upload_begun_hand page (Ok grant) = refl
upload_begun_hand page (Err why) = refl

download_begun_hand : (page : PageValue) (begins : Result DownloadBegun DownloadFault) → IsAtHand (download_begun page begins)
download_begun_hand page (Ok grant) = refl
download_begun_hand page (Err why) = refl

finished_hand : (page : PageValue) (finished : Result ℕ FinishFault) → IsAtHand (upload_finished page finished)
finished_hand page (Ok number) = refl
finished_hand page (Err finish.Stopped) = refl
finished_hand page (Err finish.ConfigChanged) = refl
finished_hand page (Err (finish.QueueFull permit set)) = refl
finished_hand page (Err (finish.Exhausted permit set)) = refl
finished_hand page (Err (finish.Memory permit set)) = refl

ticket_hand : (number : ℕ) (page : PageValue) (state : TicketState) → IsAtHand (ticket_told number page state)
ticket_hand number page ticket.Waiting = refl
ticket_hand number page ticket.Durable = refl
ticket_hand number page ticket.Unsure = refl

lost_hand : (stage : Stage) → IsAtHand stage → IsAtHand (lost stage)
lost_hand (Paging what) hand = refl
lost_hand (Exchanging what) hand = refl
lost_hand (Uploading grant page upload) hand = refl
lost_hand (Downloading port page download) hand = refl
lost_hand (Breaking holder why) hand = refl
lost_hand stage hand = hand

moved_hand : (value : PortValue) (next : Next) → GoesAtHand next → IsAtHand (moved value next).stage
moved_hand value (To stage) hand = hand
moved_hand value (Start work) hand = either (is_manual work.config.mode) _ _ refl refl

comes_by : (port : ℕ) (started : Option ℕ) (requested : Bool) (stage : Stage) (heard : Input) → IsAtHand stage
    → ComesOf (wanted port stage) heard
    → IsAtHand (fed (machine_at port started requested (after_action stage)) heard).stage
comes_by port started requested (Settled own) input.Wake hand comes = refl
comes_by port started requested (Settled own) heard hand comes = absurd comes
comes_by port started requested (Paging what) (input.Page connection octets) hand comes =
    moved_hand (machine_at port started requested (Paging what)) (page_heard what connection (page_of octets))
    (page_hand what connection (page_of octets))
comes_by port started requested (Paging what) input.Lost hand comes = refl
comes_by port started requested (Paging what) heard hand comes = absurd comes
comes_by port started requested (Attending what) (input.Reply (reply.Attended work)) hand comes =
    moved_hand (machine_at port started requested (Attending what)) (attended started requested what work)
    (attended_hand started requested what work)
comes_by port started requested (Attending what) heard hand comes = absurd comes
comes_by port started requested (BeginningUpload found) (input.Reply (reply.BegunUpload begins)) hand comes =
    upload_begun_hand found.page begins
comes_by port started requested (BeginningUpload found) heard hand comes = absurd comes
comes_by port started requested (BeginningDownload found checksum) (input.Reply (reply.BegunDownload begins)) hand comes =
    download_begun_hand found.page begins
comes_by port started requested (BeginningDownload found checksum) heard hand comes = absurd comes
comes_by port started requested (Exchanging what) (input.Octets octets) hand comes = exchanged_hand what (answer_of octets.items)
comes_by port started requested (Exchanging what) input.Lost hand comes = refl
comes_by port started requested (Exchanging what) heard hand comes = absurd comes
comes_by port started requested (Uploading grant page upload) (input.Octets octets) hand comes =
    upload_hand grant page upload (answer_of octets.items)
comes_by port started requested (Uploading grant page upload) input.Lost hand comes = refl
comes_by port started requested (Uploading grant page upload) heard hand comes = absurd comes
comes_by port started requested (Filing grant page set) (input.Reply (reply.FinishedUpload finished)) hand comes =
    finished_hand page finished
comes_by port started requested (Filing grant page set) heard hand comes = absurd comes
comes_by port started requested (Filed page) heard hand comes = absurd cc
comes_by port started requested (Storing number page) (input.Reply (reply.Ticket state)) hand comes = ticket_hand number page state
comes_by port started requested (Storing number page) heard hand comes = absurd comes
comes_by port started requested (Downloading permit page download) (input.Octets octets) hand comes =
    download_hand permit page download (answer_of octets.items)
comes_by port started requested (Downloading permit page download) input.Lost hand comes = refl
comes_by port started requested (Downloading permit page download) heard hand comes = absurd comes
comes_by port started requested (Breaking holder why) (input.Octets octets) hand comes = refl
comes_by port started requested (Breaking holder why) input.Lost hand comes = refl
comes_by port started requested (Breaking holder why) heard hand comes = absurd comes
comes_by port started requested (Returning (held.Upload permit) own) (input.Reply reply.AbandonedUpload) hand comes = refl
comes_by port started requested (Returning (held.Upload permit) own) heard hand comes = absurd comes
comes_by port started requested (Returning (held.Download permit) own) (input.Reply reply.EndedDownload) hand comes = refl
comes_by port started requested (Returning (held.Download permit) own) heard hand comes = absurd comes
comes_by port started requested (Returned transfer own) heard hand comes = absurd cc

-- any outcome of what was wanted leaves no permit with the core
comes_hand : (value : PortValue) (heard : Input) → IsAtHand value.stage → ComesOf (wanted value.port value.stage) heard
    → IsAtHand (fed (at_stage value (after_action value.stage)) heard).stage
comes_hand value heard hand comes = comes_by value.port value.started_revision value.upload_requested value.stage heard hand comes

-- and so does the machine that was fed it, also if memory ran out
pub fed_hand : (old new : PortValue) (heard : Input) → IsAtHand old.stage → ComesOf (wanted old.port old.stage) heard
    → IsFed (at_stage old (after_action old.stage)) heard new → IsAtHand new.stage
fed_hand old new heard hand comes is =
    fed_is (λ value. IsAtHand value.stage) (at_stage old (after_action old.stage)) new heard is (comes_hand old heard hand comes)
    (λ octets stage out. runs_out_hand (after_action old.stage) (answer_of octets.items) stage out)

-- whatever happens
pub happens_hand : (old new : PortValue) (latest : Happening) → IsAtHand old.stage → Happens old latest new → IsAtHand new.stage
happens_hand old new (Raised code) hand is = ap (λ (value : PortValue). is_at_hand value.stage) is ∙ hand
happens_hand old new (Did wants heard) hand is =
    fed_hand old new heard hand (subst (λ w. ComesOf w heard) is.0 is.1) is.2
