-- What a port does next.
use Rattle.std.specs.Prelude.{ℕ}
use Rattle.iol_types.specs.declared.key.TheConstants.{DATA_STORAGE}
use Rattle.iol_link.specs.declared.messages.Request.{Request}
use Rattle.iol_link.specs.declared.messages.Request.TheVariants.{Read}
use Rattle.iol_transfer.specs.declared.command.DsCommand.TheVariants as command
use Rattle.iol_transfer.specs.declared.object.TheConstants.{STATE_PROPERTY, PARAMETER_CHECKSUM}
use Rattle.iol_transfer.specs.Command.{commanded}
use Rattle.iol_transfer.specs.Machine.{asked}
use Rattle.iol_transfer.specs.Download.{sent_by}
use Rattle.iol_port.specs.Calls.{Call, Attend, BeginUpload, FinishUpload, AbandonUpload, AskTicket, BeginDownload, EndDownload, call_of}
use Rattle.iol_port.specs.Stage.{Stage, Settled, Paging, Attending, BeginningUpload, BeginningDownload, Exchanging, Uploading, Filing}
use Rattle.iol_port.specs.Stage.{Filed, Storing, Downloading, Breaking, Returning, Returned}
use Rattle.iol_port.specs.Status.{transfer_of}
use Rattle.iol_port.specs.declared.action.Action.{Action}
use Rattle.iol_port.specs.declared.action.Action.TheVariants as action
use Rattle.iol_port.specs.declared.stage.ExchangeFor.{ExchangeFor}
use Rattle.iol_port.specs.declared.stage.ExchangeFor.TheVariants as exchange
use Rattle.iol_port.specs.declared.stage.Held.{Held}
use Rattle.iol_port.specs.declared.stage.Held.TheVariants as held

-- what a port wants: nothing, the page of its device, an answer to a request, or a reply to a call of the core (own)
pub data Wanted : Type 0 where
  Nothing : Wanted
  ThePage : Wanted
  AnswerTo : (request : Request) → Wanted
  ReplyTo : (call : Call) → Wanted

-- the request of an exchange outside a transfer (standard, Data Storage object)
abbrev pub request_for : ExchangeFor → Request
request_for (exchange.ReadingState found left) = Read DATA_STORAGE STATE_PROPERTY
request_for (exchange.ReadingChecksum found property left) = Read DATA_STORAGE PARAMETER_CHECKSUM
request_for (exchange.EndingUpload page left) = commanded command.UploadEnd
request_for (exchange.Stopping storing) = commanded command.Break
request_for exchange.Yielding = commanded command.Break

-- the call that returns a permit (own)
abbrev pub return_of : Held → Call
return_of (held.Upload permit) = AbandonUpload permit
return_of (held.Download permit) = EndDownload permit

-- what a port wants next; nothing if it is settled, or if the core has its permit in a call (own)
abbrev pub wanted : ℕ → Stage → Wanted
wanted port (Settled rest) = Nothing
wanted port (Paging page_for) = ThePage
wanted port (Attending attend_for) = ReplyTo (Attend port)
wanted port (BeginningUpload found) = ReplyTo (BeginUpload port found.page.vendor found.page.device found.connection)
wanted port (BeginningDownload found checksum) = ReplyTo (BeginDownload port found.page.vendor found.page.device checksum)
wanted port (Exchanging exchange_for) = AnswerTo (request_for exchange_for)
wanted port (Uploading grant page upload) = AnswerTo (asked upload)
wanted port (Filing grant page set) = ReplyTo (FinishUpload grant set)
wanted port (Filed page) = Nothing
wanted port (Storing ticket page) = ReplyTo (AskTicket ticket)
wanted port (Downloading permit page download) = AnswerTo (sent_by download.sends)
wanted port (Breaking held fault) = AnswerTo (commanded command.Break)
wanted port (Returning held rest) = ReplyTo (return_of held)
wanted port (Returned transfer rest) = Nothing

-- the stage of a port after its action: a call that takes a permit has taken it (own)
abbrev pub after_action : Stage → Stage
after_action (Filing grant page set) = Filed page
after_action (Returning held rest) = Returned (transfer_of held) rest
after_action stage = stage

-- what an action in memory wants (own)
abbrev pub wanted_of : Action → Wanted
wanted_of action.Idle = Nothing
wanted_of action.ReadPage = ThePage
wanted_of (action.Exchange request) = AnswerTo request
wanted_of (action.Ask call) = ReplyTo (call_of call)

-- this holds of the call of the core that an action makes, if it makes one (own)
abbrev pub IfAsks : Action → (Call → Type 0) → Type 0
IfAsks (action.Ask call) holds = holds (call_of call)
IfAsks action.Idle holds = Unit {0}
IfAsks action.ReadPage holds = Unit {0}
IfAsks (action.Exchange request) holds = Unit {0}
