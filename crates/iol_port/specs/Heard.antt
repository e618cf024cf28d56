-- How a port continues after each input.
use Rattle.std.specs.Prelude.{◌≡◌, ◌⊎◌, ℕ, ◌==◌, ◌&&◌, ◌||◌, not, Bool, true, false, if◌then◌else◌, Option, Some, None, Result, Ok, Err}
use Rattle.iol_types.specs.Config.{is_manual, restores}
use Rattle.iol_link.specs.Reading.{answer_of}
use Rattle.iol_link.specs.Page.{PageValue, page_of}
use Rattle.iol_link.specs.Validation.{ident_fault}
use Rattle.iol_link.specs.declared.validation.IdentFault.{IdentFault}
use Rattle.iol_transfer.specs.Property.{PropertyValue}
use Rattle.iol_transfer.specs.Machine.{begun}
use Rattle.iol_transfer.specs.Download.{begun_download}
use Rattle.iol_transfer.specs.declared.fault.TransferFault.TheVariants as transfer
use Rattle.iol_transfer.specs.declared.repeats.TheConstants.{MOST_REQUESTS}
use Rattle.iol_core.specs.declared.permit.UploadGrant.{UploadGrant}
use Rattle.iol_core.specs.declared.port.Work.{Work}
use Rattle.iol_core.specs.declared.ticket.TicketState.{TicketState}
use Rattle.iol_core.specs.declared.ticket.TicketState.TheVariants as ticket
use Rattle.iol_core.specs.declared.upload.PermitFault.{PermitFault}
use Rattle.iol_core.specs.declared.upload.FinishFault.{FinishFault}
use Rattle.iol_core.specs.declared.upload.FinishFault.TheVariants as finish
use Rattle.iol_core.specs.declared.download.DownloadBegun.{DownloadBegun}
use Rattle.iol_core.specs.declared.download.DownloadFault.{DownloadFault}
use Rattle.iol_port.specs.Answers.{failed, answered, RunsOut}
use Rattle.iol_port.specs.Calls.{HandsBack}
use Rattle.iol_port.specs.Decision.{decide}
use Rattle.iol_port.specs.Stage.{Stage, Settled, Paging, Attending, BeginningUpload, BeginningDownload, Exchanging, Uploading, Filing}
use Rattle.iol_port.specs.Stage.{machine_at, Filed, Storing, Downloading, Breaking, Returning, Returned, PortValue, Next, To, Start}
use Rattle.iol_port.specs.declared.action.Input.{Input}
use Rattle.iol_port.specs.declared.action.Input.TheVariants as input
use Rattle.iol_port.specs.declared.action.TheConstants.{UPLOAD_REQUEST}
use Rattle.iol_port.specs.declared.call.Reply.{Reply}
use Rattle.iol_port.specs.declared.call.Reply.TheVariants as reply
use Rattle.iol_port.specs.declared.decision.Decision.{Decision}
use Rattle.iol_port.specs.declared.decision.Decision.TheVariants as decision
use Rattle.iol_port.specs.declared.fault.PortFault.TheVariants as fault
use Rattle.iol_port.specs.declared.fault.StoringFault.TheVariants as unstored
use Rattle.iol_port.specs.declared.stage.Rest.{Rest}
use Rattle.iol_port.specs.declared.stage.Rest.TheVariants as rest
use Rattle.iol_port.specs.declared.stage.FoundDevice.{FoundDevice}
use Rattle.iol_port.specs.declared.stage.PageFor.{PageFor}
use Rattle.iol_port.specs.declared.stage.PageFor.TheVariants as page_for
use Rattle.iol_port.specs.declared.stage.AttendFor.{AttendFor}
use Rattle.iol_port.specs.declared.stage.AttendFor.TheVariants as attend
use Rattle.iol_port.specs.declared.stage.ExchangeFor.TheVariants as exchange
use Rattle.iol_port.specs.declared.stage.Held.TheVariants as held

-- two flags are the same (own)
abbrev pub same_flag : Bool → Bool → Bool
same_flag true flag = flag
same_flag false flag = not flag

-- two pages are equal in every field that is read of them (own)
abbrev pub same_page : PageValue → PageValue → Bool
same_page one two =
    (one.vendor == two.vendor) && (one.device == two.device) && (one.revision == two.revision)
    && (one.min_cycle_time == two.min_cycle_time) && same_flag one.has_isdu two.has_isdu

-- a settled port keeps this page (own)
abbrev pub settled_with : Rest → PageValue → Bool
settled_with (rest.Ready own) page = same_page own page
settled_with (rest.ReadyLocked own) page = same_page own page
settled_with (rest.ReadyEmpty own) page = same_page own page
settled_with (rest.Mismatch why own) page = same_page own page
settled_with _ page = false

-- after a page that fits: the Data Storage is examined if the validation restores, or else the port is ready (own)
abbrev pub found_by : Work → ℕ → PageValue → Stage
found_by work connection page =
    if restores work.config.validation
    then Exchanging (exchange.ReadingState (record { work = work; page = page; connection = connection }) MOST_REQUESTS)
    else Settled (rest.Ready page)

-- after a page was checked against the configuration: the device fits, or it is a mismatch (own)
abbrev pub judged : Work → ℕ → PageValue → Option IdentFault → Stage
judged work connection page None = found_by work connection page
judged work connection page (Some why) = Settled (rest.Mismatch why page)

-- after a page: a settled port that finds its own page stays settled, and one that finds another starts (own)
abbrev pub page_heard : PageFor → ℕ → PageValue → Next
page_heard (page_for.Comparing work own) connection page = if settled_with own page then To (Settled own) else Start work
page_heard (page_for.Identifying work) connection page = To (judged work connection page (ident_fault work.config page))

abbrev pub paged : Stage → ℕ → PageValue → Next
paged (Paging what) connection page = page_heard what connection page
paged stage connection page = To stage

-- a settled port is woken under the configuration that it started under: off stays, a port with a device checks whether
-- that is still there, and any other starts (own)
abbrev pub resumed : Rest → Work → Next
resumed rest.Off work = To (Settled rest.Off)
resumed rest.Lost work = Start work
resumed (rest.Failed why) work = Start work
resumed own work = To (Paging (page_for.Comparing work own))

-- the port last started under this revision (own)
abbrev pub is_under : Option ℕ → ℕ → Bool
is_under None revision = false
is_under (Some started) revision = started == revision

-- the stage after a decision on a device that was found (own)
abbrev pub decided : FoundDevice → ℕ → Decision → Stage
decided found checksum decision.Ready = Settled (rest.Ready found.page)
decided found checksum decision.ReadyLocked = Settled (rest.ReadyLocked found.page)
decided found checksum decision.ReadyEmpty = Settled (rest.ReadyEmpty found.page)
decided found checksum decision.Upload = BeginningUpload found
decided found checksum decision.Download = BeginningDownload found checksum

-- what was read of a device counts under the configuration that the port started under; under another it starts again
-- (own)
abbrev pub confirmed : FoundDevice → PropertyValue → ℕ → Work → Next
confirmed found property checksum work =
    if found.work.revision == work.revision
    then To (decided found checksum (decide work.config.validation property.state property.flag checksum work.checksum))
    else Start work

-- after the core has returned the port's work; a port that is not there is off (own)
abbrev pub attended : Option ℕ → Bool → AttendFor → Option Work → Next
attended started requested what None = To (Settled rest.Off)
attended started requested (attend.Waking own) (Some work) =
    if is_under started work.revision && not requested then resumed own work else Start work
attended started requested (attend.Confirming found property checksum) (Some work) = confirmed found property checksum work
attended started requested attend.Restarting (Some work) = Start work

abbrev pub told : Option ℕ → Bool → Stage → Option Work → Next
told started requested (Attending what) work = attended started requested what work
told started requested stage work = To stage

-- after a permit to upload is given or refused (own)
abbrev pub upload_begun : PageValue → Result UploadGrant PermitFault → Stage
upload_begun page (Ok grant) = Uploading grant page (begun grant.vendor grant.device)
upload_begun page (Err why) = failed (fault.Permit why)

abbrev pub upload_permitted : Stage → Result UploadGrant PermitFault → Stage
upload_permitted (BeginningUpload found) begins = upload_begun found.page begins
upload_permitted stage begins = stage

-- after a permit to download is given, with the set, or refused (own)
abbrev pub download_begun : PageValue → Result DownloadBegun DownloadFault → Stage
download_begun page (Ok begins) = Downloading begins.permit page (begun_download begins.set.value)
download_begun page (Err why) = failed (fault.Download why)

abbrev pub download_permitted : Stage → Result DownloadBegun DownloadFault → Stage
download_permitted (BeginningDownload found checksum) begins = download_begun found.page begins
download_permitted stage begins = stage

-- after a set was filed: it waits to be durable; nothing more is taken; the port was configured again; the queue is full and
-- the set is filed again; or there is no number or no memory for it (own)
abbrev pub upload_finished : PageValue → Result ℕ FinishFault → Stage
upload_finished page (Ok ticket) = Storing ticket page
upload_finished page (Err finish.Stopped) = Exchanging (exchange.Stopping false)
upload_finished page (Err finish.ConfigChanged) = Exchanging exchange.Yielding
upload_finished page (Err (finish.QueueFull permit set)) = Filing permit page set.value
upload_finished page (Err (finish.Exhausted permit set)) = Breaking (held.Upload permit) (fault.Storing unstored.Exhausted)
upload_finished page (Err (finish.Memory permit set)) = Breaking (held.Upload permit) (fault.Transfer transfer.Memory)

abbrev pub finished_upload : Stage → Result ℕ FinishFault → Stage
finished_upload (Filed page) finished = upload_finished page finished
finished_upload stage finished = stage

-- after the core has said whether a set is durable: the upload ends only if it is (own)
abbrev pub ticket_told : ℕ → PageValue → TicketState → Stage
ticket_told number page ticket.Waiting = Storing number page
ticket_told number page ticket.Durable = Exchanging (exchange.EndingUpload page MOST_REQUESTS)
ticket_told number page ticket.Unsure = Exchanging (exchange.Stopping true)

abbrev pub told_ticket : Stage → TicketState → Stage
told_ticket (Storing number page) state = ticket_told number page state
told_ticket stage state = stage

-- after a permit was returned (own)
abbrev pub settled : Stage → Stage
settled (Returned transfer own) = Settled own
settled stage = stage

-- after a reply of the core (own)
abbrev pub replied : Option ℕ → Bool → Stage → Reply → Next
replied started requested stage (reply.Attended work) = told started requested stage work
replied started requested stage (reply.BegunUpload begins) = To (upload_permitted stage begins)
replied started requested stage (reply.FinishedUpload finished) = To (finished_upload stage finished)
replied started requested stage reply.AbandonedUpload = To (settled stage)
replied started requested stage (reply.Ticket state) = To (told_ticket stage state)
replied started requested stage (reply.BegunDownload begins) = To (download_permitted stage begins)
replied started requested stage reply.EndedDownload = To (settled stage)

-- after a loss: a port that holds a permit returns it, and nothing that was read is kept (own)
abbrev pub lost : Stage → Stage
lost (Paging what) = Settled rest.Lost
lost (Exchanging what) = Settled rest.Lost
lost (Uploading grant page upload) = Returning (held.Upload grant) rest.Lost
lost (Downloading port page download) = Returning (held.Download port) rest.Lost
lost (Breaking holds why) = Returning holds rest.Lost
lost stage = stage

-- the stage after a settled port is woken (own)
abbrev pub woken : Stage → Stage
woken (Settled own) = Attending (attend.Waking own)
woken stage = stage

-- the first stage under a configuration: only IOL_MANUAL has a device to work with (own)
abbrev pub first_stage : Work → Stage
first_stage work = if is_manual work.config.mode then Paging (page_for.Identifying work) else Settled rest.Off

-- the machine at another stage; the machine as it starts, which drops the device's request for an upload (own)
abbrev pub at_stage : PortValue → Stage → PortValue
at_stage value stage = machine_at value.port value.started_revision value.upload_requested stage

abbrev pub started : PortValue → Work → PortValue
started value work = machine_at value.port (Some work.revision) false (first_stage work)

abbrev pub moved : PortValue → Next → PortValue
moved value (To stage) = at_stage value stage
moved value (Start work) = started value work

-- an event is kept if it is the device's request for an upload (standard, Data Storage object)
abbrev pub noted : PortValue → ℕ → PortValue
noted value code =
    machine_at value.port value.started_revision (value.upload_requested || (code == UPLOAD_REQUEST)) value.stage

-- the machine after an input (own)
abbrev pub fed : PortValue → Input → PortValue
fed value input.Wake = at_stage value (woken value.stage)
fed value (input.Event code) = noted value code
fed value (input.Page connection octets) = moved value (paged value.stage connection (page_of octets))
fed value (input.Octets octets) = at_stage value (answered value.stage (answer_of octets.items))
fed value input.Lost = at_stage value (lost value.stage)
fed value (input.Reply heard) = moved value (replied value.started_revision value.upload_requested value.stage heard)

-- the machine after an input: as above, or out of memory at an answer that needs it (own)
abbrev pub IsFed : PortValue → Input → PortValue → Type 0
IsFed old (input.Octets octets) new =
    (new ≡ fed old (input.Octets octets))
    ⊎ ((stage : Stage) × RunsOut old.stage (answer_of octets.items) stage × (new ≡ at_stage old stage))
IsFed old input.Wake new = new ≡ fed old input.Wake
IsFed old (input.Event code) new = new ≡ fed old (input.Event code)
IsFed old (input.Page connection octets) new = new ≡ fed old (input.Page connection octets)
IsFed old input.Lost new = new ≡ fed old input.Lost
IsFed old (input.Reply heard) new = new ≡ fed old (input.Reply heard)

-- what a stage awaits: to be woken, a page, an answer, and each reply of the core (own)
abbrev pub is_settled : Stage → Bool
is_settled (Settled own) = true
is_settled _ = false

abbrev pub awaits_page : Stage → Bool
awaits_page (Paging what) = true
awaits_page _ = false

abbrev pub awaits_answer : Stage → Bool
awaits_answer (Exchanging what) = true
awaits_answer (Uploading grant page upload) = true
awaits_answer (Downloading port page download) = true
awaits_answer (Breaking holds why) = true
awaits_answer _ = false

abbrev pub awaits_link : Stage → Bool
awaits_link (Paging what) = true
awaits_link (Exchanging what) = true
awaits_link (Uploading grant page upload) = true
awaits_link (Downloading port page download) = true
awaits_link (Breaking holds why) = true
awaits_link _ = false

abbrev pub is_attending : Stage → Bool
is_attending (Attending what) = true
is_attending _ = false

abbrev pub is_beginning_upload : Stage → Bool
is_beginning_upload (BeginningUpload found) = true
is_beginning_upload _ = false

abbrev pub is_beginning_download : Stage → Bool
is_beginning_download (BeginningDownload found checksum) = true
is_beginning_download _ = false

abbrev pub is_filed : Stage → Bool
is_filed (Filed page) = true
is_filed _ = false

abbrev pub is_storing : Stage → Bool
is_storing (Storing number page) = true
is_storing _ = false

abbrev pub is_returned : Stage → Bool
is_returned (Returned transfer own) = true
is_returned _ = false

-- a reply is to the call that was made; a set that it returns is of the device of its permit (own)
abbrev pub FitsReply : Stage → Reply → Type 0
FitsReply stage (reply.Attended work) = is_attending stage ≡ true
FitsReply stage (reply.BegunUpload begins) = is_beginning_upload stage ≡ true
FitsReply stage (reply.FinishedUpload finished) = (is_filed stage ≡ true) × HandsBack finished
FitsReply stage reply.AbandonedUpload = is_returned stage ≡ true
FitsReply stage (reply.Ticket state) = is_storing stage ≡ true
FitsReply stage (reply.BegunDownload begins) = is_beginning_download stage ≡ true
FitsReply stage reply.EndedDownload = is_returned stage ≡ true

-- an input is what the stage awaits; an event may come at any time (own)
abbrev pub Fits : Stage → Input → Type 0
Fits stage input.Wake = is_settled stage ≡ true
Fits stage (input.Event code) = Unit {0}
Fits stage (input.Page connection octets) = awaits_page stage ≡ true
Fits stage (input.Octets octets) = awaits_answer stage ≡ true
Fits stage input.Lost = awaits_link stage ≡ true
Fits stage (input.Reply heard) = FitsReply stage heard
