-- The laws of the machines of ports, under the names of `src/laws.rt`.
use Rattle.std.proofs.Common.{◌≡◌, ◌⊎◌, inl, inr, ℕ, List, [], ◌∷◌, sym, ap, ◌∙◌, subst}
use Rattle.std.specs.Prelude.{Some, Ok}
use Rattle.iol_types.specs.DataSet.{SetValue}
use Rattle.iol_transfer.specs.Download.{Sender}
use Rattle.iol_core.specs.declared.permit.UploadGrant.{UploadGrant}
use Rattle.iol_port.specs.Heard.{Fits}
use Rattle.iol_port.specs.History.{ComesOf, Happening, Raised, Did, HasLed}
use Rattle.iol_port.specs.Stage.{Stage, Settled, Paging, Attending, BeginningUpload, BeginningDownload, Exchanging, Uploading, Filing}
use Rattle.iol_port.specs.Stage.{Filed, Storing, Downloading, Breaking, Returning, Returned, PortValue, IsStage}
use Rattle.iol_port.specs.Wanted.{AnswerTo, ReplyTo, wanted, after_action, request_for}
use Rattle.iol_port.specs.declared.action.Input.{Input}
use Rattle.iol_port.specs.declared.action.Input.TheVariants as input
use Rattle.iol_port.specs.declared.call.Reply.TheVariants as reply
use Rattle.iol_port.specs.declared.decision.Decision.TheVariants as decision
use Rattle.iol_port.specs.declared.stage.FoundDevice.{FoundDevice}
use Rattle.iol_port.specs.declared.stage.ExchangeFor.{ExchangeFor}
use Rattle.iol_port.specs.declared.stage.ExchangeFor.TheVariants as exchange
use Rattle.iol_port.specs.declared.stage.Held.TheVariants as held
use Rattle.iol_types.specs.DataSet.{IsSet}
use Rattle.iol_link.specs.declared.messages.Request.{Request}
use Rattle.iol_transfer.specs.Exchanges.{Exchange}
use Rattle.iol_transfer.specs.Upload.{IsFinished}
use Rattle.iol_transfer.specs.Machine.{asked}
use Rattle.iol_transfer.specs.Download.{sent_by, IsDownloading}
use Rattle.iol_port.specs.Laws.{HasUploaded, HasDownloaded, IsDurable, IsDecided}
use Rattle.iol_transfer.specs.declared.command.DsCommand.TheVariants as command
use Rattle.iol_transfer.specs.Command.{commanded}
use Rattle.iol_port.specs.Calls.{BeginUpload, FinishUpload, BeginDownload}
use Rattle.iol_port.proofs.Stages.{ExchangingIs, StageIs}
use Rattle.iol_transfer.specs.Asked.{IsNext}
use Rattle.iol_transfer.specs.Download.{IsSending, later_writes}
use Rattle.iol_transfer.proofs.Feeding.{next-is}
use Rattle.iol_port.specs.Laws.{held_by}
use Rattle.iol_port.proofs.Fitting.{fits}
use Rattle.iol_port.proofs.UploadEnds.{asks_other, break_other, read_other, sends_other}
use Rattle.iol_port.proofs.Leading.{led_is}

pub what_comes_fits : (port : ℕ) (history : List Happening) (value : PortValue) (heard : Input) → HasLed port history value
    → IsStage value.stage
    → ComesOf (wanted value.port value.stage) heard → Fits (after_action value.stage) heard
what_comes_fits port history value heard led holds comes =
    fits value.port value.stage heard holds (led_is port history value led).hand comes

-- a machine wants a reply, and its stage is the one that wants it
upload_asked : (port : ℕ) (history : List Happening) (asks vendor device connection : ℕ) (stage : Stage) → StageIs port history stage
    → wanted port stage ≡ ReplyTo (BeginUpload asks vendor device connection)
    → (found : FoundDevice) × (checksum : ℕ) × IsDecided decision.Upload found checksum history
    × (BeginUpload asks vendor device connection ≡ BeginUpload port found.page.vendor found.page.device found.connection)
upload_asked port history asks vendor device connection (BeginningUpload found) is wants = (found, is.0, is.1, cc)
upload_asked port history asks vendor device connection (Settled own) is wants = absurd cc
upload_asked port history asks vendor device connection (Paging what) is wants = absurd cc
upload_asked port history asks vendor device connection (Attending what) is wants = absurd cc
upload_asked port history asks vendor device connection (BeginningDownload found checksum) is wants = absurd cc
upload_asked port history asks vendor device connection (Exchanging what) is wants = absurd cc
upload_asked port history asks vendor device connection (Uploading grant page upload) is wants = absurd cc
upload_asked port history asks vendor device connection (Filing grant page set) is wants = absurd cc
upload_asked port history asks vendor device connection (Filed page) is wants = absurd cc
upload_asked port history asks vendor device connection (Storing number page) is wants = absurd cc
upload_asked port history asks vendor device connection (Downloading permit page download) is wants = absurd cc
upload_asked port history asks vendor device connection (Breaking holder why) is wants = absurd cc
upload_asked port history asks vendor device connection (Returning (held.Upload permit) own) is wants = absurd cc
upload_asked port history asks vendor device connection (Returning (held.Download permit) own) is wants = absurd cc
upload_asked port history asks vendor device connection (Returned transfer own) is wants = absurd cc

pub an_upload_is_decided : (port : ℕ) (history : List Happening) (value : PortValue) (asks vendor device connection : ℕ)
    → HasLed port history value
    → wanted value.port value.stage ≡ ReplyTo (BeginUpload asks vendor device connection)
    → (found : FoundDevice) × (checksum : ℕ) × IsDecided decision.Upload found checksum history
    × (BeginUpload asks vendor device connection ≡ BeginUpload port found.page.vendor found.page.device found.connection)
an_upload_is_decided port history value asks vendor device connection led wants =
    let is = led_is port history value led in
    upload_asked port history asks vendor device connection value.stage is.stage (ap (λ p. wanted p value.stage) (sym is.port_is) ∙ wants)

download_asked : (port : ℕ) (history : List Happening) (asks vendor device checksum : ℕ) (stage : Stage) → StageIs port history stage
    → wanted port stage ≡ ReplyTo (BeginDownload asks vendor device checksum)
    → (found : FoundDevice) × IsDecided decision.Download found checksum history
    × (BeginDownload asks vendor device checksum ≡ BeginDownload port found.page.vendor found.page.device checksum)
download_asked port history asks vendor device checksum (BeginningDownload found own) is wants =
    let same : own ≡ checksum = cc in
    (found, subst (λ c. IsDecided decision.Download found c history) same is, cc)
download_asked port history asks vendor device checksum (BeginningUpload found) is wants = absurd cc
download_asked port history asks vendor device checksum (Settled own) is wants = absurd cc
download_asked port history asks vendor device checksum (Paging what) is wants = absurd cc
download_asked port history asks vendor device checksum (Attending what) is wants = absurd cc
download_asked port history asks vendor device checksum (Exchanging what) is wants = absurd cc
download_asked port history asks vendor device checksum (Uploading grant page upload) is wants = absurd cc
download_asked port history asks vendor device checksum (Filing grant page set) is wants = absurd cc
download_asked port history asks vendor device checksum (Filed page) is wants = absurd cc
download_asked port history asks vendor device checksum (Storing number page) is wants = absurd cc
download_asked port history asks vendor device checksum (Downloading permit page download) is wants = absurd cc
download_asked port history asks vendor device checksum (Breaking holder why) is wants = absurd cc
download_asked port history asks vendor device checksum (Returning (held.Upload permit) own) is wants = absurd cc
download_asked port history asks vendor device checksum (Returning (held.Download permit) own) is wants = absurd cc
download_asked port history asks vendor device checksum (Returned transfer own) is wants = absurd cc

pub a_download_is_decided : (port : ℕ) (history : List Happening) (value : PortValue) (asks vendor device checksum : ℕ)
    → HasLed port history value
    → wanted value.port value.stage ≡ ReplyTo (BeginDownload asks vendor device checksum)
    → (found : FoundDevice) × IsDecided decision.Download found checksum history
    × (BeginDownload asks vendor device checksum ≡ BeginDownload port found.page.vendor found.page.device checksum)
a_download_is_decided port history value asks vendor device checksum led wants =
    let is = led_is port history value led in
    download_asked port history asks vendor device checksum value.stage is.stage (ap (λ p. wanted p value.stage) (sym is.port_is) ∙ wants)

set_asked : (port : ℕ) (history : List Happening) (grant : UploadGrant) (set : SetValue) (stage : Stage) → StageIs port history stage
    → wanted port stage ≡ ReplyTo (FinishUpload grant set)
    → (conversation : List Exchange) × HasUploaded port grant conversation history × IsFinished grant.vendor grant.device conversation set
set_asked port history grant set (Filing own page whole) is wants =
    let one : own ≡ grant = cc in
    let other : whole ≡ set = cc in (
      is.conversation,
      subst (λ g. HasUploaded port g is.conversation history) one is.uploaded,
      subst (λ g. IsFinished g.vendor g.device is.conversation set) one
          (subst (λ s. IsFinished own.vendor own.device is.conversation s) other is.finished),
    )
set_asked port history grant set (BeginningDownload found own) is wants = absurd cc
set_asked port history grant set (BeginningUpload found) is wants = absurd cc
set_asked port history grant set (Settled own) is wants = absurd cc
set_asked port history grant set (Paging what) is wants = absurd cc
set_asked port history grant set (Attending what) is wants = absurd cc
set_asked port history grant set (Exchanging what) is wants = absurd cc
set_asked port history grant set (Uploading own page upload) is wants = absurd cc
set_asked port history grant set (Filed page) is wants = absurd cc
set_asked port history grant set (Storing number page) is wants = absurd cc
set_asked port history grant set (Downloading permit page download) is wants = absurd cc
set_asked port history grant set (Breaking holder why) is wants = absurd cc
set_asked port history grant set (Returning (held.Upload permit) own) is wants = absurd cc
set_asked port history grant set (Returning (held.Download permit) own) is wants = absurd cc
set_asked port history grant set (Returned transfer own) is wants = absurd cc

pub a_set_is_filed_whole : (port : ℕ) (history : List Happening) (value : PortValue) (grant : UploadGrant) (set : SetValue)
    → HasLed port history value
    → wanted value.port value.stage ≡ ReplyTo (FinishUpload grant set)
    → (conversation : List Exchange) × HasUploaded port grant conversation history × IsFinished grant.vendor grant.device conversation set
a_set_is_filed_whole port history value grant set led wants =
    let is = led_is port history value led in
    set_asked port history grant set value.stage is.stage (ap (λ p. wanted p value.stage) (sym is.port_is) ∙ wants)

-- ---- requests while a permit is held

upload_sends : (port : ℕ) (history : List Happening) (grant : UploadGrant) (request : Request) (stage : Stage) → StageIs port history stage
    → held_by stage ≡ Some (held.Upload grant) → wanted port stage ≡ AnswerTo request
    → (request ≡ commanded command.Break)
    ⊎ ((conversation : List Exchange) × HasUploaded port grant conversation history × IsNext conversation request)
upload_sends port history grant request (Uploading own page upload) is holds wants =
    let one : own ≡ grant = cc in
    let other : asked upload ≡ request = cc in
    inr (
      is.conversation,
      subst (λ g. HasUploaded port g is.conversation history) one is.uploaded,
      subst (λ r. IsNext is.conversation r) other (next-is own.vendor own.device is.conversation upload is.since),
    )
upload_sends port history grant request (Breaking holder why) is holds wants = inl cc
upload_sends port history grant request (Filing own page set) is holds wants = absurd cc
upload_sends port history grant request (Returning (held.Upload permit) own) is holds wants = absurd cc
upload_sends port history grant request (Returning (held.Download permit) own) is holds wants = absurd cc
upload_sends port history grant request (Downloading permit page download) is holds wants = absurd cc
upload_sends port history grant request stage is holds wants = absurd cc

pub an_upload_sends_its_requests : (port : ℕ) (history : List Happening) (value : PortValue) (grant : UploadGrant) (request : Request)
    → HasLed port history value
    → held_by value.stage ≡ Some (held.Upload grant) → wanted value.port value.stage ≡ AnswerTo request
    → (request ≡ commanded command.Break)
    ⊎ ((conversation : List Exchange) × HasUploaded port grant conversation history × IsNext conversation request)
an_upload_sends_its_requests port history value grant request led holds wants =
    let is = led_is port history value led in
    upload_sends port history grant request value.stage is.stage holds (ap (λ p. wanted p value.stage) (sym is.port_is) ∙ wants)

-- what a download sends next
sending : (set : SetValue) (conversation : List Exchange) (download : Sender) → IsDownloading set conversation download
    → IsSending set conversation (sent_by download.sends) download.busy
sending set conversation download since = record {
  sent = since.sent;
  left = later_writes set download.sends;
  before = since.before;
  order = since.order;
  is = since.is;
  few = since.few;
  follows = since.follows;
}

download_sends : (port : ℕ) (history : List Happening) (permit : ℕ) (request : Request) (stage : Stage) → StageIs port history stage
    → held_by stage ≡ Some (held.Download permit) → wanted port stage ≡ AnswerTo request
    → (request ≡ commanded command.Break)
    ⊎ ((set : SetValue) × (conversation : List Exchange) × (busy : ℕ) × HasDownloaded port set conversation history
    × IsSending set conversation request busy)
download_sends port history permit request (Downloading own page download) is holds wants =
    let other : sent_by download.sends ≡ request = cc in
    inr (
      is.set,
      is.conversation,
      download.busy,
      is.downloaded,
      subst (λ r. IsSending is.set is.conversation r download.busy) other (sending is.set is.conversation download is.since),
    )
download_sends port history permit request (Breaking holder why) is holds wants = inl cc
download_sends port history permit request (Returning (held.Upload own) rests) is holds wants = absurd cc
download_sends port history permit request (Returning (held.Download own) rests) is holds wants = absurd cc
download_sends port history permit request stage is holds wants = absurd cc

pub a_download_sends_its_set : (port : ℕ) (history : List Happening) (value : PortValue) (permit : ℕ) (request : Request)
    → HasLed port history value
    → held_by value.stage ≡ Some (held.Download permit) → wanted value.port value.stage ≡ AnswerTo request
    → (request ≡ commanded command.Break)
    ⊎ ((set : SetValue) × (conversation : List Exchange) × (busy : ℕ) × HasDownloaded port set conversation history
    × IsSending set conversation request busy)
a_download_sends_its_set port history value permit request led holds wants =
    let is = led_is port history value led in
    download_sends port history permit request value.stage is.stage holds (ap (λ p. wanted p value.stage) (sym is.port_is) ∙ wants)

-- ---- DS_UploadEnd

downloaded_set : (port : ℕ) (set : SetValue) (conversation : List Exchange) (history : List Happening)
    → HasDownloaded port set conversation history → IsSet set
downloaded_set port set conversation [] is = absurd is
downloaded_set port set conversation (Raised code ∷ before) is = downloaded_set port set conversation before is
downloaded_set port set conversation (Did wants (input.Reply (reply.BegunDownload (Ok begins))) ∷ before) is = is.0
downloaded_set port set conversation (Did (AnswerTo request) (input.Octets octets) ∷ before) is = downloaded_set port set is.0 before is.2
downloaded_set port set conversation (Did wants heard ∷ before) is = absurd is

exchange_ends : (port : ℕ) (history : List Happening) (what : ExchangeFor) → ExchangingIs port history what
    → request_for what ≡ commanded command.UploadEnd
    → IsDurable port history
exchange_ends port history (exchange.ReadingState found left) is same = absurd (read_other _ _ same)
exchange_ends port history (exchange.ReadingChecksum found property left) is same = absurd (read_other _ _ same)
exchange_ends port history (exchange.EndingUpload page left) is same = is
exchange_ends port history (exchange.Stopping storing) is same = absurd (break_other same)
exchange_ends port history exchange.Yielding is same = absurd (break_other same)

answer-is : (one other : Request) → AnswerTo one ≡ AnswerTo other → one ≡ other
answer-is one other same = cc

end_asked : (port : ℕ) (history : List Happening) (stage : Stage) → StageIs port history stage
    → wanted port stage ≡ AnswerTo (commanded command.UploadEnd)
    → IsDurable port history
end_asked port history (Exchanging what) is wants = exchange_ends port history what is (answer-is _ _ wants)
end_asked port history (Uploading grant page upload) is wants = absurd (asks_other upload.asks (answer-is _ _ wants))
end_asked port history (Downloading permit page download) is wants =
    absurd (sends_other is.set is.conversation download (downloaded_set port is.set is.conversation history is.downloaded) is.since
    (answer-is _ _ wants))
end_asked port history (Breaking holder why) is wants = absurd (break_other (answer-is _ _ wants))
end_asked port history stage is wants = absurd cc

pub an_upload_ends_once_durable : (port : ℕ) (history : List Happening) (value : PortValue) → HasLed port history value
    → wanted value.port value.stage ≡ AnswerTo (commanded command.UploadEnd) → IsDurable port history
an_upload_ends_once_durable port history value led wants =
    let is = led_is port history value led in
    end_asked port history value.stage is.stage (ap (λ p. wanted p value.stage) (sym is.port_is) ∙ wants)
