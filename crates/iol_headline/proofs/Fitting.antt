-- The events since a port's last work, at each stage of its machine.
use Rattle.std.proofs.Common.{◌≡◌, true, ℕ, List, [], ◌∷◌, ◌++◌, ap}
use Rattle.std.proofs.Common.{◌∙◌, append_assoc}
use Rattle.std.specs.Prelude.{Option, None}
use Rattle.iol_types.specs.Config.{is_manual}
use Rattle.iol_core.specs.Telling.{work_told}
use Rattle.iol_link.specs.Page.{PageValue}
use Rattle.iol_link.specs.Validation.{ident_fault}
use Rattle.iol_link.specs.declared.validation.IdentFault.{IdentFault}
use Rattle.iol_port.specs.Stage.{Stage, Settled, Paging, Attending, BeginningUpload, BeginningDownload}
use Rattle.iol_port.specs.Stage.{Exchanging, Uploading, Filing, Filed, Storing, Downloading, Breaking, Returning, Returned}
use Rattle.iol_port.specs.Status.{status_at_rest}
use Rattle.iol_port.specs.Telling.{status_told}
use Rattle.iol_port.specs.declared.stage.AttendFor.{AttendFor}
use Rattle.iol_port.specs.declared.stage.AttendFor.TheVariants as attend
use Rattle.iol_port.specs.declared.stage.ExchangeFor.{ExchangeFor}
use Rattle.iol_port.specs.declared.stage.ExchangeFor.TheVariants as exchange
use Rattle.iol_port.specs.declared.stage.FoundDevice.{FoundDevice}
use Rattle.iol_port.specs.declared.stage.PageFor.{PageFor}
use Rattle.iol_port.specs.declared.stage.PageFor.TheVariants as page_for
use Rattle.iol_core.specs.Events.{Event, Page, Lost, Attended}
use Rattle.iol_core.specs.Statuses as shows
use Rattle.iol_headline.specs.Conversations.{AreConnected, HasPage}
use Rattle.iol_headline.specs.Settled.{AreUnsettled, WasToldLast, IsJudged, SettlesBy}

-- ---- events that leave the last work and the last page as they are

abbrev pub AreQuiet : List Event → Type 0
AreQuiet told = AreUnsettled told × AreConnected told

unsettled-append : (told more : List Event) → AreUnsettled told → AreUnsettled more → AreUnsettled (told ++ more)
unsettled-append [] more these those = those
unsettled-append (e ∷ told) more these those = (these.0, unsettled-append told more these.1 those)

connected-append : (told more : List Event) → AreConnected told → AreConnected more → AreConnected (told ++ more)
connected-append [] more these those = those
connected-append (Page port connection octets ∷ told) more these those = absurd these
connected-append (Lost port connection request ∷ told) more these those = absurd these
connected-append (e ∷ told) more these those = connected-append told more these those

-- the last work and the last page stay among more events
pub last_more : (port : ℕ) (work : shows.Work) (events more : List Event) → WasToldLast port work events → AreUnsettled more
    → WasToldLast port work (events ++ more)
last_more port work events more is quiet = record {
  older = is.older;
  since = is.since ++ more;
  split = ap (λ (es : List Event). es ++ more) is.split ∙ append_assoc is.older (Attended port work ∷ is.since) more;
  unsettled = unsettled-append is.since more is.unsettled quiet;
}

pub page_more : (port connection : ℕ) (page : PageValue) (events more : List Event) → HasPage port connection page events
    → AreConnected more
    → HasPage port connection page (events ++ more)
page_more port connection page events more is quiet = record {
  before = is.before;
  octets = is.octets;
  since = is.since ++ more;
  split = ap (λ (es : List Event). es ++ more) is.split ∙ append_assoc is.before (Page port connection is.octets ∷ is.since) more;
  page_is = is.page_is;
  connected = connected-append is.since more is.connected quiet;
}

-- so does what was judged by them
pub judged_more : (port : ℕ) (why : Option IdentFault) (events more : List Event) → IsJudged port why events → AreQuiet more
    → IsJudged port why (events ++ more)
judged_more port why events more is quiet = record {
  work = is.work;
  connection = is.connection;
  page = is.page;
  last = last_more port is.work events more is.last quiet.0;
  manual = is.manual;
  shown = page_more port is.connection is.page events more is.shown quiet.1;
  judged = is.judged;
}

-- ---- stages

-- the device that was found fits the work that the port got last
pub record Fits (port : ℕ) (found : FoundDevice) (events : List Event) : Type 0 where
  pub connection : ℕ
  pub last : WasToldLast port (work_told found.work) events
  pub manual : is_manual found.work.config.mode ≡ true
  pub shown : HasPage port connection found.page events
  pub wanted : ident_fault found.work.config found.page ≡ None

-- a device that was found is still the one
pub fits_more : (port : ℕ) (found : FoundDevice) (events more : List Event) → Fits port found events → AreQuiet more
    → Fits port found (events ++ more)
fits_more port found events more is quiet = record {
  connection = is.connection;
  last = last_more port (work_told found.work) events more is.last quiet.0;
  manual = is.manual;
  shown = page_more port is.connection found.page events more is.shown quiet.1;
  wanted = is.wanted;
}

abbrev pub PagingStands : ℕ → List Event → PageFor → Type 0
PagingStands port events (page_for.Comparing work own) = WasToldLast port (work_told work) events
PagingStands port events (page_for.Identifying work) = WasToldLast port (work_told work) events × (is_manual work.config.mode ≡ true)

abbrev pub AttendingStands : ℕ → List Event → AttendFor → Type 0
AttendingStands port events (attend.Waking own) = Unit {0}
AttendingStands port events (attend.Confirming found property checksum) = Fits port found events
AttendingStands port events attend.Restarting = Unit {0}

abbrev pub ExchangingStands : ℕ → List Event → ExchangeFor → Type 0
ExchangingStands port events (exchange.ReadingState found left) = Fits port found events
ExchangingStands port events (exchange.ReadingChecksum found property left) = Fits port found events
ExchangingStands port events (exchange.EndingUpload page left) = IsJudged port None events
ExchangingStands port events (exchange.Stopping storing) = Unit {0}
ExchangingStands port events exchange.Yielding = Unit {0}

abbrev pub Stands : ℕ → List Event → Stage → Type 0
Stands port events (Settled own) = Unit {0}
Stands port events (Paging what) = PagingStands port events what
Stands port events (Attending what) = AttendingStands port events what
Stands port events (BeginningUpload found) = IsJudged port None events
Stands port events (BeginningDownload found checksum) = IsJudged port None events
Stands port events (Exchanging what) = ExchangingStands port events what
Stands port events (Uploading grant page upload) = IsJudged port None events
Stands port events (Filing grant page set) = IsJudged port None events
Stands port events (Filed page) = Unit {0}
Stands port events (Storing number page) = IsJudged port None events
Stands port events (Downloading permit page download) = IsJudged port None events
Stands port events (Breaking holder why) = Unit {0}
Stands port events (Returning holder own) = SettlesBy port events (status_told (status_at_rest own))
Stands port events (Returned transfer own) = Unit {0}
