-- What holds of a machine at each stage, by its history.
use Rattle.std.proofs.Common.{◌≡◌, ℕ, List, [], ◌∷◌}
use Rattle.std.specs.Prelude.{Some, length, slice_index}
use Rattle.iol_types.specs.DataSet.{SetValue}
use Rattle.iol_transfer.specs.Machine.{Machine}
use Rattle.iol_transfer.specs.Download.{Sender}
use Rattle.iol_core.specs.declared.permit.UploadGrant.{UploadGrant}
use Rattle.iol_port.specs.History.{Happening, Raised}
use Rattle.iol_port.specs.Stage.{Stage, Settled, Paging, Attending, BeginningUpload, BeginningDownload, Exchanging, Uploading, Filing}
use Rattle.iol_port.specs.Stage.{Filed, Storing, Downloading, Breaking, Returning, Returned}
use Rattle.iol_port.specs.declared.decision.Decision.TheVariants as decision
use Rattle.iol_port.specs.declared.stage.FoundDevice.{FoundDevice}
use Rattle.iol_port.specs.declared.stage.PageFor.{PageFor}
use Rattle.iol_port.specs.declared.stage.PageFor.TheVariants as page_for
use Rattle.iol_port.specs.declared.stage.AttendFor.{AttendFor}
use Rattle.iol_port.specs.declared.stage.AttendFor.TheVariants as attend
use Rattle.iol_port.specs.declared.stage.ExchangeFor.{ExchangeFor}
use Rattle.iol_port.specs.declared.stage.ExchangeFor.TheVariants as exchange
use Rattle.iol_transfer.specs.Property.{PropertyValue}
use Rattle.std.proofs.Common.{◌++◌, ◌+◌, ◌<◌}
use Rattle.iol_types.specs.declared.key.TheConstants.{DATA_STORAGE}
use Rattle.iol_link.specs.declared.messages.Request.{Request}
use Rattle.iol_link.specs.declared.messages.Request.TheVariants.{Read}
use Rattle.iol_transfer.specs.Property.{property_of}
use Rattle.iol_transfer.specs.declared.object.TheConstants.{STATE_PROPERTY, PARAMETER_CHECKSUM}
use Rattle.iol_transfer.specs.Exchanges.{Exchange, busy_times, read_of, Follows}
use Rattle.iol_transfer.specs.Upload.{IsFinished}
use Rattle.iol_transfer.specs.Machine.{IsSinceBegin}
use Rattle.iol_transfer.specs.Download.{IsDownloading}
use Rattle.iol_transfer.specs.declared.repeats.TheConstants.{MOST_REQUESTS}
use Rattle.iol_port.specs.Laws.{last_work, HasUploaded, HasDownloaded, HasFiled, IsDurable, HasFound, HasExamined, IsDecided}

abbrev pub state_request : Request
state_request = Read DATA_STORAGE STATE_PROPERTY

abbrev pub checksum_request : Request
checksum_request = Read DATA_STORAGE PARAMETER_CHECKSUM

-- State_Property is to be read, and the read was answered Device busy some number of times
pub record AsksState (found : FoundDevice) (left : ℕ) (history : List Happening) : Type 0 where
  pub times : ℕ
  pub found_is : HasFound found (busy_times times state_request) history
  pub count : times + left ≡ MOST_REQUESTS
  pub more : 0 < left

-- Parameter_Checksum is to be read, after State_Property
pub record AsksChecksum (found : FoundDevice) (property : PropertyValue) (left : ℕ) (history : List Happening) : Type 0 where
  pub front : List Exchange
  pub state : List ℕ
  pub times : ℕ
  pub found_is : HasFound found (front ++ busy_times times checksum_request) history
  pub reads : Follows front (read_of DATA_STORAGE STATE_PROPERTY state ∷ [])
  pub one : length state ≡ 1
  pub property_is : property ≡ property_of (slice_index state 0)
  pub count : times + left ≡ MOST_REQUESTS
  pub more : 0 < left

pub record AsksUpload (port : ℕ) (grant : UploadGrant) (upload : Machine) (history : List Happening) : Type 0 where
  pub conversation : List Exchange
  pub uploaded : HasUploaded port grant conversation history
  pub since : IsSinceBegin grant.vendor grant.device conversation upload

pub record IsWhole (port : ℕ) (grant : UploadGrant) (set : SetValue) (history : List Happening) : Type 0 where
  pub conversation : List Exchange
  pub uploaded : HasUploaded port grant conversation history
  pub finished : IsFinished grant.vendor grant.device conversation set

pub record AsksDownload (port : ℕ) (download : Sender) (history : List Happening) : Type 0 where
  pub set : SetValue
  pub conversation : List Exchange
  pub downloaded : HasDownloaded port set conversation history
  pub since : IsDownloading set conversation download

abbrev pub PagingIs : List Happening → PageFor → Type 0
PagingIs history (page_for.Comparing work own) = last_work history ≡ Some work
PagingIs history (page_for.Identifying work) = last_work history ≡ Some work

abbrev pub AttendingIs : List Happening → AttendFor → Type 0
AttendingIs history (attend.Waking own) = Unit {0}
AttendingIs history (attend.Confirming found property checksum) = HasExamined found property checksum history
AttendingIs history attend.Restarting = Unit {0}

abbrev pub ExchangingIs : ℕ → List Happening → ExchangeFor → Type 0
ExchangingIs port history (exchange.ReadingState found left) = AsksState found left history
ExchangingIs port history (exchange.ReadingChecksum found property left) = AsksChecksum found property left history
ExchangingIs port history (exchange.EndingUpload page left) = IsDurable port history
ExchangingIs port history (exchange.Stopping storing) = Unit {0}
ExchangingIs port history exchange.Yielding = Unit {0}

abbrev pub StageIs : ℕ → List Happening → Stage → Type 0
StageIs port history (Settled own) = Unit {0}
StageIs port history (Paging what) = PagingIs history what
StageIs port history (Attending what) = AttendingIs history what
StageIs port history (BeginningUpload found) = (checksum : ℕ) × IsDecided decision.Upload found checksum history
StageIs port history (BeginningDownload found checksum) = IsDecided decision.Download found checksum history
StageIs port history (Exchanging what) = ExchangingIs port history what
StageIs port history (Uploading grant page upload) = AsksUpload port grant upload history
StageIs port history (Filing grant page set) = IsWhole port grant set history
StageIs port history (Filed page) = Unit {0}
StageIs port history (Storing number page) = HasFiled port number history
StageIs port history (Downloading permit page download) = AsksDownload port download history
StageIs port history (Breaking holder why) = Unit {0}
StageIs port history (Returning holder own) = Unit {0}
StageIs port history (Returned transfer own) = Unit {0}

-- ---- events change nothing

raised_paging : (history : List Happening) (code : ℕ) (what : PageFor) → PagingIs history what → PagingIs (Raised code ∷ history) what
raised_paging history code (page_for.Comparing work own) is = is
raised_paging history code (page_for.Identifying work) is = is

raised_found : (history : List Happening) (code : ℕ) (found : FoundDevice) (conversation : List Exchange)
    → HasFound found conversation history
    → HasFound found conversation (Raised code ∷ history)
raised_found history code found conversation is = record { shown = is.shown; said = is.said; wanted = is.wanted }

raised_attending : (history : List Happening) (code : ℕ) (what : AttendFor) → AttendingIs history what
    → AttendingIs (Raised code ∷ history) what
raised_attending history code (attend.Waking own) is = tt
raised_attending history code (attend.Confirming found property checksum) is = record {
  conversation = is.conversation;
  state = is.state;
  sum = is.sum;
  found_is = raised_found history code found is.conversation is.found_is;
  reads = is.reads;
  one = is.one;
  property_is = is.property_is;
  four = is.four;
  checksum_is = is.checksum_is;
}
raised_attending history code attend.Restarting is = tt

raised_exchanging : (port : ℕ) (history : List Happening) (code : ℕ) (what : ExchangeFor) → ExchangingIs port history what
    → ExchangingIs port (Raised code ∷ history) what
raised_exchanging port history code (exchange.ReadingState found left) is = record {
  times = is.times;
  found_is = raised_found history code found _ is.found_is;
  count = is.count;
  more = is.more;
}
raised_exchanging port history code (exchange.ReadingChecksum found property left) is = record {
  front = is.front;
  state = is.state;
  times = is.times;
  found_is = raised_found history code found _ is.found_is;
  reads = is.reads;
  one = is.one;
  property_is = is.property_is;
  count = is.count;
  more = is.more;
}
raised_exchanging port history code (exchange.EndingUpload page left) is = is
raised_exchanging port history code (exchange.Stopping storing) is = tt
raised_exchanging port history code exchange.Yielding is = tt

pub raised_is : (port : ℕ) (history : List Happening) (code : ℕ) (stage : Stage) → StageIs port history stage
    → StageIs port (Raised code ∷ history) stage
raised_is port history code (Settled own) is = tt
raised_is port history code (Paging what) is = raised_paging history code what is
raised_is port history code (Attending what) is = raised_attending history code what is
raised_is port history code (BeginningUpload found) is = is
raised_is port history code (BeginningDownload found checksum) is = is
raised_is port history code (Exchanging what) is = raised_exchanging port history code what is
raised_is port history code (Uploading grant page upload) is =
    record { conversation = is.conversation; uploaded = is.uploaded; since = is.since }
raised_is port history code (Filing grant page set) is =
    record { conversation = is.conversation; uploaded = is.uploaded; finished = is.finished }
raised_is port history code (Filed page) is = tt
raised_is port history code (Storing number page) is = is
raised_is port history code (Downloading permit page download) is =
    record { set = is.set; conversation = is.conversation; downloaded = is.downloaded; since = is.since }
raised_is port history code (Breaking holder why) is = tt
raised_is port history code (Returning holder own) is = tt
raised_is port history code (Returned transfer own) is = tt
