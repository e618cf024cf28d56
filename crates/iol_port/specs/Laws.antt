-- What the history of a port's machine says about its transfers.
use Rattle.std.specs.Prelude.{◌≡◌, ◌⊎◌, ℕ, false, true, List, [], ◌∷◌, ◌++◌, length, slice_index, Option, Some, None, Ok, Err}
use Rattle.iol_types.specs.Config.{is_manual, restores}
use Rattle.iol_types.specs.DataSet.{SetValue, IsSet}
use Rattle.iol_types.specs.declared.key.TheConstants.{DATA_STORAGE}
use Rattle.iol_link.specs.Reading.{answer_of}
use Rattle.iol_link.specs.declared.messages.Answer.{Answer}
use Rattle.iol_link.specs.declared.messages.Answer.TheVariants.{WriteOk, Busy}
use Rattle.iol_link.specs.declared.messages.Request.{Request}
use Rattle.iol_link.specs.Page.{PageValue, page_of}
use Rattle.iol_link.specs.Validation.{ident_fault}
use Rattle.iol_link.specs.declared.validation.IdentFault.{IdentFault}
use Rattle.iol_transfer.specs.Property.{PropertyValue, property_of}
use Rattle.iol_transfer.specs.declared.command.DsCommand.TheVariants as command
use Rattle.iol_transfer.specs.declared.object.TheConstants.{STATE_PROPERTY, PARAMETER_CHECKSUM}
use Rattle.iol_transfer.specs.Command.{commanded}
use Rattle.iol_transfer.specs.Exchanges.{Exchange, read_of, Follows}
use Rattle.iol_transfer.specs.Upload.{IsFinished, number_of}
use Rattle.iol_transfer.specs.Download.{IsDownload}
use Rattle.iol_core.specs.declared.permit.UploadGrant.{UploadGrant}
use Rattle.iol_core.specs.declared.port.Work.{Work}
use Rattle.iol_core.specs.declared.ticket.TicketState.TheVariants as ticket
use Rattle.iol_core.specs.declared.upload.FinishFault.TheVariants as finish
use Rattle.iol_port.specs.Calls.{BeginUpload, FinishUpload, AskTicket, BeginDownload}
use Rattle.iol_port.specs.Decision.{decide}
use Rattle.iol_port.specs.History.{Happening, Raised, Did}
use Rattle.iol_port.specs.Stage.{Stage, Settled, Uploading, Filing, Downloading, Breaking, Returning}
use Rattle.iol_port.specs.Wanted.{AnswerTo, ReplyTo}
use Rattle.iol_port.specs.declared.action.Input.TheVariants as input
use Rattle.iol_port.specs.declared.call.Reply.TheVariants as reply
use Rattle.iol_port.specs.declared.decision.Decision.{Decision}
use Rattle.iol_port.specs.declared.decision.Decision.TheVariants as decision
use Rattle.iol_port.specs.declared.stage.FoundDevice.{FoundDevice}
use Rattle.iol_port.specs.declared.stage.Held.{Held}
use Rattle.iol_port.specs.declared.stage.Held.TheVariants as held
use Rattle.iol_port.specs.declared.stage.Rest.{Rest}
use Rattle.iol_port.specs.declared.stage.Rest.TheVariants as rest

-- these exchanges are earlier ones, of which this holds, and one more, whose octets are an answer (own)
abbrev pub AndThen : (List Exchange → Type 0) → Request → List ℕ → List Exchange → Type 0
AndThen Earlier request octets conversation =
    (earlier : List Exchange) × (answer : Answer) × Earlier earlier × (answer_of octets ≡ Ok answer)
    × (conversation ≡ earlier ++ record { request = request; answer = answer } ∷ [])

-- the work that the core returned last (own)
abbrev pub last_work : List Happening → Option Work
last_work [] = None
last_work (Did wants (input.Reply (reply.Attended work)) ∷ before) = work
last_work (latest ∷ before) = last_work before

-- the last page that was read is this one, on this connection; since then the device was not lost, and these are the
-- exchanges with it (own)
abbrev pub HasShown : ℕ → PageValue → List Exchange → List Happening → Type 0
HasShown connection page conversation [] = ⊥
HasShown connection page conversation (Raised code ∷ before) = HasShown connection page conversation before
HasShown connection page conversation (Did wants (input.Page on octets) ∷ before) = (on ≡ connection) × (page ≡ page_of octets)
    × (conversation ≡ [])
HasShown connection page conversation (Did (AnswerTo request) (input.Octets octets) ∷ before) =
    AndThen (λ earlier. HasShown connection page earlier before) request octets.items conversation
HasShown connection page conversation (Did wants (input.Reply heard) ∷ before) = HasShown connection page conversation before
HasShown connection page conversation (Did wants heard ∷ before) = ⊥

-- the last permit to upload that was given is this one, for what was asked. Since then the device was not lost, the core was
-- called only to file a set that found the queue full, and these are the exchanges with the device (own)
abbrev pub HasUploaded : ℕ → UploadGrant → List Exchange → List Happening → Type 0
HasUploaded port grant conversation [] = ⊥
HasUploaded port grant conversation (Raised code ∷ before) = HasUploaded port grant conversation before
HasUploaded port grant conversation (Did wants (input.Reply (reply.BegunUpload (Ok given))) ∷ before) =
    (given ≡ grant) × (wants ≡ ReplyTo (BeginUpload port grant.vendor grant.device grant.connection)) × (conversation ≡ [])
HasUploaded port grant conversation (Did (AnswerTo request) (input.Octets octets) ∷ before) =
    AndThen (λ earlier. HasUploaded port grant earlier before) request octets.items conversation
HasUploaded port grant conversation (Did wants (input.Reply (reply.FinishedUpload (Err (finish.QueueFull permit set)))) ∷ before) =
    HasUploaded port grant conversation before
HasUploaded port grant conversation (Did wants heard ∷ before) = ⊥

-- the last permit to download came with this parameter set, for a device with its numbers; since then the device was not lost,
-- nothing else was asked of the core, and these are the exchanges with the device (own)
abbrev pub HasDownloaded : ℕ → SetValue → List Exchange → List Happening → Type 0
HasDownloaded port set conversation [] = ⊥
HasDownloaded port set conversation (Raised code ∷ before) = HasDownloaded port set conversation before
HasDownloaded port set conversation (Did wants (input.Reply (reply.BegunDownload (Ok begun))) ∷ before) =
    IsSet set × (begun.set.value ≡ set) × ((checksum : ℕ) × (wants ≡ ReplyTo (BeginDownload port set.vendor set.device checksum)))
    × (conversation ≡ [])
HasDownloaded port set conversation (Did (AnswerTo request) (input.Octets octets) ∷ before) =
    AndThen (λ earlier. HasDownloaded port set earlier before) request octets.items conversation
HasDownloaded port set conversation (Did wants heard ∷ before) = ⊥

-- a finished upload was filed under this ticket, and the core has said since that it is not durable yet (own)
abbrev pub HasFiled : ℕ → ℕ → List Happening → Type 0
HasFiled port number [] = ⊥
HasFiled port number (Raised code ∷ before) = HasFiled port number before
HasFiled port number (Did wants (input.Reply (reply.Ticket ticket.Waiting)) ∷ before) = HasFiled port number before
HasFiled port number (Did wants (input.Reply (reply.FinishedUpload (Ok given))) ∷ before) =
    (given ≡ number)
    × ((grant : UploadGrant) × (set : SetValue) × (conversation : List Exchange) × (wants ≡ ReplyTo (FinishUpload grant set))
    × HasUploaded port grant conversation before × IsFinished grant.vendor grant.device conversation set)
HasFiled port number (Did wants heard ∷ before) = ⊥

-- the core has said that a filed, finished upload is durable, and since then only DS_UploadEnd was sent, and answered
-- Device busy (own)
abbrev pub IsDurable : ℕ → List Happening → Type 0
IsDurable port [] = ⊥
IsDurable port (Raised code ∷ before) = IsDurable port before
IsDurable port (Did wants (input.Reply (reply.Ticket ticket.Durable)) ∷ before) = (number : ℕ) × (wants ≡ ReplyTo (AskTicket number))
    × HasFiled port number before
IsDurable port (Did wants (input.Octets octets) ∷ before) =
    (wants ≡ AnswerTo (commanded command.UploadEnd)) × (answer_of octets.items ≡ Ok Busy) × IsDurable port before
IsDurable port (Did wants heard ∷ before) = ⊥

-- a device was found: its page is the last that was read, on its connection, with these exchanges since, and it fits the
-- work that the core returned last (own)
pub record HasFound (found : FoundDevice) (conversation : List Exchange) (history : List Happening) : Type 0 where
  pub shown : HasShown found.connection found.page conversation history
  pub said : last_work history ≡ Some found.work
  pub wanted : ident_fault found.work.config found.page ≡ None

-- a device was found, and the exchanges since are one read of State_Property, one octet, and one of Parameter_Checksum, four
-- octets, each sent again at Device busy (own)
pub record HasExamined (found : FoundDevice) (property : PropertyValue) (checksum : ℕ) (history : List Happening) : Type 0 where
  pub conversation : List Exchange
  pub state : List ℕ
  pub sum : List ℕ
  pub found_is : HasFound found conversation history
  pub reads : Follows conversation (read_of DATA_STORAGE STATE_PROPERTY state ∷ read_of DATA_STORAGE PARAMETER_CHECKSUM sum ∷ [])
  pub one : length state ≡ 1
  pub property_is : property ≡ property_of (slice_index state 0)
  pub four : length sum ≡ 4
  pub checksum_is : checksum ≡ number_of sum

-- a device was found and examined, and then the core returned this work, under the revision for which the device was found:
-- these lead to this decision (own)
pub record IsConfirmed (decision : Decision) (found : FoundDevice) (checksum : ℕ) (work : Work) (before : List Happening) : Type 0 where
  pub property : PropertyValue
  pub examined : HasExamined found property checksum before
  pub revision : found.work.revision ≡ work.revision
  pub decided : decide work.config.validation property.state property.flag checksum work.checksum ≡ decision

-- the last happening, apart from events, is that the core returned the work after a device was examined, and this was the
-- decision (own)
abbrev pub IsDecided : Decision → FoundDevice → ℕ → List Happening → Type 0
IsDecided decision found checksum [] = ⊥
IsDecided decision found checksum (Raised code ∷ before) = IsDecided decision found checksum before
IsDecided decision found checksum (Did wants (input.Reply (reply.Attended (Some work))) ∷ before) =
    IsConfirmed decision found checksum work before
IsDecided decision found checksum (Did wants heard ∷ before) = ⊥

-- the permit that a stage holds, if it holds one (own)
abbrev pub held_by : Stage → Option Held
held_by (Uploading grant page upload) = Some (held.Upload grant)
held_by (Filing grant page set) = Some (held.Upload grant)
held_by (Downloading port page download) = Some (held.Download port)
held_by (Breaking holder fault) = Some holder
held_by (Returning holder own) = Some holder
held_by _ = None

-- the page that a settled port keeps, if it keeps one (own)
abbrev pub page_at : Rest → Option PageValue
page_at rest.Off = None
page_at rest.Lost = None
page_at (rest.Failed why) = None
page_at (rest.Ready page) = Some page
page_at (rest.ReadyLocked page) = Some page
page_at (rest.ReadyEmpty page) = Some page
page_at (rest.Mismatch why page) = Some page

-- after a loss a port is settled as lost, or it first returns the permit that it held; nothing else is kept (own)
abbrev pub IsLostWith : Option Held → Stage → Type 0
IsLostWith None stage = stage ≡ Settled rest.Lost
IsLostWith (Some holder) stage = stage ≡ Returning holder rest.Lost

-- the core has once returned this work (own)
abbrev pub HasSaid : Work → List Happening → Type 0
HasSaid work [] = ⊥
HasSaid work (Did wants (input.Reply (reply.Attended (Some own))) ∷ before) = (own ≡ work) ⊎ HasSaid work before
HasSaid work (latest ∷ before) = HasSaid work before

-- the device with this page fits, on its connection since: it fitted the work that the core had returned then, and the last
-- work has the same revision (own)
pub record IsKnown (page : PageValue) (history : List Happening) : Type 0 where
  pub connection : ℕ
  pub conversation : List Exchange
  pub work : Work
  pub last : Work
  pub shown : HasShown connection page conversation history
  pub earlier : HasSaid work history
  pub manual : is_manual work.config.mode ≡ true
  pub wanted : ident_fault work.config page ≡ None
  pub said : last_work history ≡ Some last
  pub revision : work.revision ≡ last.revision

-- the device with this page does not fit, for this cause, the work that the core returned last (own)
pub record IsMismatched (why : IdentFault) (page : PageValue) (history : List Happening) : Type 0 where
  pub connection : ℕ
  pub work : Work
  pub shown : HasShown connection page [] history
  pub manual : is_manual work.config.mode ≡ true
  pub fault : ident_fault work.config page ≡ Some why
  pub said : last_work history ≡ Some work

-- the core has last said that the port is not there, or not IOL_MANUAL (own)
abbrev pub HasNoDevice : List Happening → Type 0
HasNoDevice history = (last_work history ≡ None) ⊎ ((work : Work) × (last_work history ≡ Some work) × (is_manual work.config.mode ≡ false))

-- a port settles so for its reason: off for what the core has said, mismatch for a fault of the page, ready for a page that
-- fits (own)
abbrev pub IsJudged : Rest → List Happening → Type 0
IsJudged rest.Off history = HasNoDevice history
IsJudged rest.Lost history = Unit {0}
IsJudged (rest.Failed why) history = Unit {0}
IsJudged (rest.Ready page) history = IsKnown page history
IsJudged (rest.ReadyLocked page) history = IsKnown page history
IsJudged (rest.ReadyEmpty page) history = IsKnown page history
IsJudged (rest.Mismatch why page) history = IsMismatched why page history

-- the validation of the work that the core returned last restores nothing (own)
abbrev pub RestoresNothing : List Happening → Type 0
RestoresNothing history = (work : Work) × (last_work history ≡ Some work) × (restores work.config.validation ≡ false)

-- the last happening, apart from events, is this decision on the device with this page, which was found and examined
-- (own)
abbrev pub IsSoDecided : Decision → PageValue → List Happening → Type 0
IsSoDecided is page history = (found : FoundDevice) × (checksum : ℕ) × IsDecided is found checksum history × (found.page ≡ page)

-- a set was written to the device with this page. It came with the last permit to download, and is one for the numbers of
-- the page. The exchanges with the device since are a whole download of it, each request answered (+) (own)
pub record HasRestored (port : ℕ) (page : PageValue) (history : List Happening) : Type 0 where
  pub set : SetValue
  pub conversation : List Exchange
  pub downloaded : HasDownloaded port set conversation history
  pub whole : IsDownload set conversation
  pub vendor : set.vendor ≡ page.vendor
  pub device : set.device ≡ page.device

-- by the last happening a port is ready with this page. The page was read, and nothing is to be restored; or the decision
-- was `Ready`; or the permit was returned under which each write of a set was answered (+); or the device answered (+) to
-- DS_UploadEnd, and what it uploaded is durable (own)
abbrev pub IsRestored : ℕ → PageValue → List Happening → Type 0
IsRestored port page [] = ⊥
IsRestored port page (Did wants (input.Page connection octets) ∷ before) = (page ≡ page_of octets) × RestoresNothing before
IsRestored port page (Did wants (input.Reply (reply.Attended work)) ∷ before) =
    IsSoDecided decision.Ready page (Did wants (input.Reply (reply.Attended work)) ∷ before)
IsRestored port page (Did wants (input.Reply reply.EndedDownload) ∷ before) = HasRestored port page before
IsRestored port page (Did wants (input.Octets octets) ∷ before) =
    (wants ≡ AnswerTo (commanded command.UploadEnd)) × (answer_of octets.items ≡ Ok WriteOk) × IsDurable port before
IsRestored port page (latest ∷ before) = ⊥
