-- What is written to the device of a port at each stage, by the history, also if an event is raised.
use Rattle.std.proofs.Common.{◌≡◌, ◌⊎◌, inl, ℕ, List, ◌∷◌, refl}
use Rattle.iol_types.specs.DataSet.{SetValue}
use Rattle.iol_link.specs.Page.{PageValue}
use Rattle.iol_transfer.specs.Exchanges.{Exchange}
use Rattle.iol_transfer.specs.Download.{Sender, IsDownloading}
use Rattle.iol_port.specs.History.{Happening, Raised}
use Rattle.iol_port.specs.Laws.{HasDownloaded, HasRestored, IsRestored, IsSoDecided}
use Rattle.iol_port.specs.Stage.{Stage, Settled, Paging, Attending, BeginningUpload, BeginningDownload, Exchanging, Uploading, Filing}
use Rattle.iol_port.specs.Stage.{Filed, Storing, Downloading, Breaking, Returning, Returned, Next, To, Start}
use Rattle.iol_port.specs.Status.{status_of, status_at_rest}
use Rattle.iol_port.specs.declared.decision.Decision.TheVariants as decision
use Rattle.iol_port.specs.declared.stage.Rest.{Rest}
use Rattle.iol_port.specs.declared.stage.Rest.TheVariants as rest
use Rattle.iol_port.specs.declared.stage.Held.{Held}
use Rattle.iol_port.specs.declared.stage.Held.TheVariants as held
use Rattle.iol_port.specs.declared.status.PortStatus.{PortStatus}

-- a download is under way, of a set for the device with this page
pub record Writes (port : ℕ) (page : PageValue) (download : Sender) (history : List Happening) : Type 0 where
  pub set : SetValue
  pub conversation : List Exchange
  pub downloaded : HasDownloaded port set conversation history
  pub since : IsDownloading set conversation download
  pub vendor : set.vendor ≡ page.vendor
  pub device : set.device ≡ page.device

-- a port that becomes ready so has what is stored, or it was decided so
abbrev pub IsRested : ℕ → List Happening → Rest → Type 0
IsRested port history rest.Off = Unit {0}
IsRested port history rest.Lost = Unit {0}
IsRested port history (rest.Failed why) = Unit {0}
IsRested port history (rest.Ready page) = IsRestored port page history
IsRested port history (rest.ReadyLocked page) = IsSoDecided decision.ReadyLocked page history
IsRested port history (rest.ReadyEmpty page) = IsSoDecided decision.ReadyEmpty page history
IsRested port history (rest.Mismatch why page) = Unit {0}

-- a port that had this status settles so: it has it still, or that holds
abbrev pub Rests : ℕ → PortStatus → List Happening → Rest → Type 0
Rests port was history own = (status_at_rest own ≡ was) ⊎ IsRested port history own

-- a port becomes ready once its permit is returned: it is one to download, and a whole set was written
abbrev pub HasWritten : ℕ → PageValue → List Happening → Held → Type 0
HasWritten port page history (held.Upload permit) = ⊥
HasWritten port page history (held.Download permit) = HasRestored port page history

-- how a port is to settle once its permit is returned
abbrev pub ReturnsTo : ℕ → List Happening → Held → Rest → Type 0
ReturnsTo port history holder rest.Off = ⊥
ReturnsTo port history holder rest.Lost = Unit {0}
ReturnsTo port history holder (rest.Failed why) = Unit {0}
ReturnsTo port history holder (rest.Ready page) = HasWritten port page history holder
ReturnsTo port history holder (rest.ReadyLocked page) = ⊥
ReturnsTo port history holder (rest.ReadyEmpty page) = ⊥
ReturnsTo port history holder (rest.Mismatch why page) = ⊥

-- what is written at a stage, of a port that had this status before
abbrev pub WrittenIs : ℕ → PortStatus → List Happening → Stage → Type 0
WrittenIs port was history (Settled own) = Rests port was history own
WrittenIs port was history (Paging what) = Unit {0}
WrittenIs port was history (Attending what) = Unit {0}
WrittenIs port was history (BeginningUpload found) = Unit {0}
WrittenIs port was history (BeginningDownload found checksum) = Unit {0}
WrittenIs port was history (Exchanging what) = Unit {0}
WrittenIs port was history (Uploading grant page upload) = Unit {0}
WrittenIs port was history (Filing grant page set) = Unit {0}
WrittenIs port was history (Filed page) = Unit {0}
WrittenIs port was history (Storing number page) = Unit {0}
WrittenIs port was history (Downloading permit page download) = Writes port page download history
WrittenIs port was history (Breaking holder why) = Unit {0}
WrittenIs port was history (Returning holder own) = ReturnsTo port history holder own
WrittenIs port was history (Returned transfer own) = Unit {0}

abbrev pub NextWritten : ℕ → PortStatus → List Happening → Next → Type 0
NextWritten port was history (To stage) = WrittenIs port was history stage
NextWritten port was history (Start work) = Unit {0}

-- ---- events

raised_whole : (port : ℕ) (page : PageValue) (history : List Happening) (code : ℕ) (holder : Held) → HasWritten port page history holder
    → HasWritten port page (Raised code ∷ history) holder
raised_whole port page history code (held.Upload permit) is = absurd is
raised_whole port page history code (held.Download permit) is = record {
  set = is.set;
  conversation = is.conversation;
  downloaded = is.downloaded;
  whole = is.whole;
  vendor = is.vendor;
  device = is.device;
}

raised_returns : (port : ℕ) (history : List Happening) (code : ℕ) (holder : Held) (own : Rest) → ReturnsTo port history holder own
    → ReturnsTo port (Raised code ∷ history) holder own
raised_returns port history code holder rest.Off is = absurd is
raised_returns port history code holder rest.Lost is = tt
raised_returns port history code holder (rest.Failed why) is = tt
raised_returns port history code holder (rest.Ready page) is = raised_whole port page history code holder is
raised_returns port history code holder (rest.ReadyLocked page) is = absurd is
raised_returns port history code holder (rest.ReadyEmpty page) is = absurd is
raised_returns port history code holder (rest.Mismatch why page) is = absurd is

pub raised_written : (port : ℕ) (was : PortStatus) (history : List Happening) (code : ℕ) (stage : Stage) → WrittenIs port was history stage
    → WrittenIs port (status_of stage) (Raised code ∷ history) stage
raised_written port was history code (Settled own) is = inl refl
raised_written port was history code (Downloading permit page download) is = record {
  set = is.set;
  conversation = is.conversation;
  downloaded = is.downloaded;
  since = is.since;
  vendor = is.vendor;
  device = is.device;
}
raised_written port was history code (Returning holder own) is = raised_returns port history code holder own is
raised_written port was history code (Paging what) is = tt
raised_written port was history code (Attending what) is = tt
raised_written port was history code (BeginningUpload found) is = tt
raised_written port was history code (BeginningDownload found checksum) is = tt
raised_written port was history code (Exchanging what) is = tt
raised_written port was history code (Uploading grant page upload) is = tt
raised_written port was history code (Filing grant page set) is = tt
raised_written port was history code (Filed page) is = tt
raised_written port was history code (Storing number page) is = tt
raised_written port was history code (Breaking holder why) is = tt
raised_written port was history code (Returned transfer own) is = tt
