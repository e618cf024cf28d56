-- What a trace reports of a port, at each stage of its machine.
use Rattle.std.proofs.Common.{◌≡◌, ◌<◌, ◌+◌, ℕ, List, [], ◌∷◌, ◌++◌, length, sym, ap, ◌∙◌, subst, append_assoc}
use Rattle.std.specs.Prelude.{Some, None, slice_index}
use Rattle.iol_types.specs.Command.{Store}
use Rattle.iol_types.specs.DataSet.{SetValue, IsSet}
use Rattle.iol_types.specs.State.{State, Port, Stored, after, port_numbered}
use Rattle.iol_types.specs.declared.key.TheConstants.{DATA_STORAGE}
use Rattle.iol_core.specs.Downloads.{stored_at}
use Rattle.iol_core.specs.declared.permit.UploadGrant.{UploadGrant}
use Rattle.iol_core.specs.declared.port.Work.{Work}
use Rattle.iol_transfer.specs.Property.{PropertyValue, property_of}
use Rattle.iol_transfer.specs.declared.object.TheConstants.{STATE_PROPERTY, PARAMETER_CHECKSUM}
use Rattle.iol_link.specs.Page.{PageValue, page_of}
use Rattle.iol_link.specs.Validation.{ident_fault}
use Rattle.iol_transfer.specs.Download.{Sender, IsDownloading}
use Rattle.iol_transfer.specs.Exchanges.{Exchange, busy_times, read_of, Follows}
use Rattle.iol_transfer.specs.Machine.{Machine, IsSinceBegin}
use Rattle.iol_transfer.specs.Upload.{IsFinished, number_of}
use Rattle.iol_transfer.specs.declared.repeats.TheConstants.{MOST_REQUESTS}
use Rattle.iol_port.proofs.Stages.{state_request, checksum_request}
use Rattle.iol_port.specs.Stage.{Stage, Settled, Paging, Attending, BeginningUpload, BeginningDownload, Exchanging, Uploading, Filing}
use Rattle.iol_port.specs.Stage.{Filed, Storing, Downloading, Breaking, Returning, Returned}
use Rattle.iol_port.specs.declared.decision.Decision.{Decision}
use Rattle.iol_port.specs.declared.decision.Decision.TheVariants as decision
use Rattle.iol_port.specs.declared.stage.FoundDevice.{FoundDevice}
use Rattle.iol_port.specs.declared.stage.PageFor.{PageFor}
use Rattle.iol_port.specs.declared.stage.PageFor.TheVariants as page_for
use Rattle.iol_port.specs.declared.stage.AttendFor.{AttendFor}
use Rattle.iol_port.specs.declared.stage.AttendFor.TheVariants as attend
use Rattle.iol_port.specs.declared.stage.ExchangeFor.{ExchangeFor}
use Rattle.iol_port.specs.declared.stage.ExchangeFor.TheVariants as exchange
use Rattle.iol_core.specs.Events.{Event, Page, Accepted, Changed, Stamp}
use Rattle.iol_core.specs.Own.{own}
use Rattle.iol_core.specs.Statuses as status
use Rattle.iol_core.specs.Words.{accepted, durable}
use Rattle.iol_headline.proofs.Lawful.{WasAcknowledged, WasStored}
use Rattle.iol_headline.proofs.Talks.{own_same}
use Rattle.iol_headline.specs.Conversations.{Converses, HasPage}
use Rattle.iol_headline.specs.Decisions.{IsExamined}
use Rattle.iol_headline.specs.WholeSets.{IsUploadedWhole}

module _ (first : ℕ) (start : State) (port connection : ℕ) where
  -- the core has said this of the port, after some of the events
  pub record WasSaid (work : Work) (events : List Stamp) : Type 0 where
    pub upto : List Stamp
    pub more : List Stamp
    pub split : events ≡ upto ++ more
    pub kept : Port
    pub there : port_numbered (after start (accepted upto)) port ≡ Some kept
    pub config : work.config ≡ kept.config
    pub revision : work.revision ≡ kept.revision

  -- the last page that was read, and the exchanges since; the device is the one that the port wants
  pub record Shows (found : FoundDevice) (conversation : List Exchange) (events : List Stamp) : Type 0 where
    pub before : List Event
    pub octets : List ℕ
    pub told : List Event
    pub split : own port events ≡ before ++ Page port connection octets ∷ told
    pub page_is : found.page ≡ page_of octets
    pub talk : Converses port connection told conversation
    pub wanted : ident_fault found.work.config found.page ≡ None
    pub said : WasSaid found.work events

  -- State_Property is to be read: it was read some number of times, each time answered Device busy
  pub record AsksState (found : FoundDevice) (left : ℕ) (events : List Stamp) : Type 0 where
    pub times : ℕ
    pub shows : Shows found (busy_times times state_request) events
    pub count : times + left ≡ MOST_REQUESTS
    pub more : 0 < left

  -- State_Property is read, and Parameter_Checksum is to be read
  pub record AsksChecksum (found : FoundDevice) (property : PropertyValue) (left : ℕ) (events : List Stamp) : Type 0 where
    pub front : List Exchange
    pub state : List ℕ
    pub times : ℕ
    pub shows : Shows found (front ++ busy_times times checksum_request) events
    pub reads : Follows front (read_of DATA_STORAGE STATE_PROPERTY state ∷ [])
    pub one : length state ≡ 1
    pub property_is : property ≡ property_of (slice_index state 0)
    pub count : times + left ≡ MOST_REQUESTS
    pub more : 0 < left

  -- both are read
  pub record IsRead (found : FoundDevice) (property : PropertyValue) (checksum : ℕ) (events : List Stamp) : Type 0 where
    pub conversation : List Exchange
    pub state : List ℕ
    pub sum : List ℕ
    pub shows : Shows found conversation events
    pub reads : Follows conversation (read_of DATA_STORAGE STATE_PROPERTY state ∷ read_of DATA_STORAGE PARAMETER_CHECKSUM sum ∷ [])
    pub one : length state ≡ 1
    pub property_is : property ≡ property_of (slice_index state 0)
    pub four : length sum ≡ 4
    pub checksum_is : checksum ≡ number_of sum

  -- it was decided so of a device that was found
  pub record Begins (is : Decision) (found : FoundDevice) (events : List Stamp) : Type 0 where
    pub examined : IsExamined is port (own port events)
    pub on : examined.connection ≡ connection
    pub page_is : found.page ≡ page_of examined.octets

  -- the exchanges of an upload under a permit
  pub record Uploads (grant : UploadGrant) (conversation : List Exchange) (events : List Stamp) : Type 0 where
    pub early : List Stamp
    pub clock : ℕ
    pub late : List Stamp
    pub page : PageValue
    pub kept : Port
    pub split : events ≡ early ++ record { event = Changed port status.Uploading; clock = clock } ∷ late
    pub shown : HasPage port connection page (own port early)
    pub told : Converses port connection (own port late) conversation
    pub port_is : grant.port ≡ port
    pub vendor : grant.vendor ≡ page.vendor
    pub device : grant.device ≡ page.device
    pub there : port_numbered (after start (accepted early)) port ≡ Some kept
    pub revision : grant.revision ≡ kept.revision

  -- an upload continues
  pub record AsksUpload (grant : UploadGrant) (upload : Machine) (events : List Stamp) : Type 0 where
    pub conversation : List Exchange
    pub uploads : Uploads grant conversation events
    pub since : IsSinceBegin grant.vendor grant.device conversation upload

  -- an upload has ended with a whole set
  pub record IsWhole (grant : UploadGrant) (set : SetValue) (events : List Stamp) : Type 0 where
    pub conversation : List Exchange
    pub uploads : Uploads grant conversation events
    pub finished : IsFinished grant.vendor grant.device conversation set

  -- a set is filed, and not yet reported as durable
  pub record IsFiled (number : ℕ) (events : List Stamp) : Type 0 where
    pub early : List Stamp
    pub clock : ℕ
    pub late : List Stamp
    pub revision : ℕ
    pub set : SetValue
    pub split : events ≡ early ++ record { event = Accepted number (Store port revision set); clock = clock } ∷ late
    pub uploaded : IsUploadedWhole port connection set early
    pub since : own port late ≡ Changed port status.Storing ∷ []

  -- the exchanges of a download under a permit
  pub record Downloads (download : Sender) (events : List Stamp) : Type 0 where
    pub early : List Stamp
    pub clock : ℕ
    pub late : List Stamp
    pub page : PageValue
    pub stored : Stored
    pub conversation : List Exchange
    pub split : events ≡ early ++ record { event = Changed port status.Downloading; clock = clock } ∷ late
    pub shown : HasPage port connection page (own port early)
    pub told : Converses port connection (own port late) conversation
    pub durable : stored_at (port_numbered (durable first start early) port) ≡ Some stored
    pub vendor : stored.set.vendor ≡ page.vendor
    pub device : stored.set.device ≡ page.device
    pub set_is : IsSet stored.set
    pub since : IsDownloading stored.set conversation download

  -- what a trace reports at each stage
  abbrev pub PagingTold : List Stamp → PageFor → Type 0
  PagingTold events (page_for.Comparing work own) = WasSaid work events
  PagingTold events (page_for.Identifying work) = WasSaid work events

  abbrev pub AttendingTold : List Stamp → AttendFor → Type 0
  AttendingTold events (attend.Waking own) = Unit {0}
  AttendingTold events (attend.Confirming found property checksum) = IsRead found property checksum events
  AttendingTold events attend.Restarting = Unit {0}

  abbrev pub ExchangingTold : List Stamp → ExchangeFor → Type 0
  ExchangingTold events (exchange.ReadingState found left) = AsksState found left events
  ExchangingTold events (exchange.ReadingChecksum found property left) = AsksChecksum found property left events
  ExchangingTold events (exchange.EndingUpload page left) = WasStored first port connection events
  ExchangingTold events (exchange.Stopping storing) = Unit {0}
  ExchangingTold events exchange.Yielding = Unit {0}

  abbrev pub Told : List Stamp → Stage → Type 0
  Told events (Settled own) = Unit {0}
  Told events (Paging what) = PagingTold events what
  Told events (Attending what) = AttendingTold events what
  Told events (BeginningUpload found) = Begins decision.Upload found events
  Told events (BeginningDownload found checksum) = Begins decision.Download found events
  Told events (Exchanging what) = ExchangingTold events what
  Told events (Uploading grant page upload) = AsksUpload grant upload events
  Told events (Filing grant page set) = IsWhole grant set events
  Told events (Filed page) = Unit {0}
  Told events (Storing number page) = IsFiled number events
  Told events (Downloading permit page download) = Downloads download events
  Told events (Breaking holder why) = Unit {0}
  Told events (Returning holder own) = Unit {0}
  Told events (Returned transfer own) = Unit {0}

  -- ---- events that are not the port's own change nothing

  -- a split of events is one of more events
  further : (early late more : List Stamp) (e : Stamp) (events : List Stamp) → events ≡ early ++ e ∷ late
      → events ++ more ≡ early ++ e ∷ (late ++ more)
  further early late more e events split = ap (λ (es : List Stamp). es ++ more) split ∙ append_assoc early (e ∷ late) more

  pub said_later : (work : Work) (events more : List Stamp) → WasSaid work events → WasSaid work (events ++ more)
  said_later work events more is = record {
    upto = is.upto;
    more = is.more ++ more;
    split = ap (λ (es : List Stamp). es ++ more) is.split ∙ append_assoc is.upto is.more more;
    kept = is.kept;
    there = is.there;
    config = is.config;
    revision = is.revision;
  }

  pub acknowledged_later : (number : ℕ) (events more : List Stamp) → WasAcknowledged first number events
      → WasAcknowledged first number (events ++ more)
  acknowledged_later number events more is = record {
    upto = is.upto;
    more = is.more ++ more;
    split = ap (λ (es : List Stamp). es ++ more) is.split ∙ append_assoc is.upto is.more more;
    enough = is.enough;
  }

  shows_later : (found : FoundDevice) (conversation : List Exchange) (events more : List Stamp) → own port more ≡ []
      → Shows found conversation events
      → Shows found conversation (events ++ more)
  shows_later found conversation events more none is = record {
    before = is.before;
    octets = is.octets;
    told = is.told;
    split = own_same port events more none ∙ is.split;
    page_is = is.page_is;
    talk = is.talk;
    wanted = is.wanted;
    said = said_later found.work events more is.said;
  }

  begins_later : (now : Decision) (found : FoundDevice) (events more : List Stamp) → own port more ≡ [] → Begins now found events
      → Begins now found (events ++ more)
  begins_later now found events more none is = record {
    examined = record {
      before = is.examined.before;
      connection = is.examined.connection;
      octets = is.examined.octets;
      told = is.examined.told;
      work = is.examined.work;
      conversation = is.examined.conversation;
      state = is.examined.state;
      sum = is.examined.sum;
      split = own_same port events more none ∙ is.examined.split;
      talk = is.examined.talk;
      reads = is.examined.reads;
      one = is.examined.one;
      four = is.examined.four;
      wanted = is.examined.wanted;
      decided = is.examined.decided;
    };
    on = is.on;
    page_is = is.page_is;
  }

  uploads_later : (grant : UploadGrant) (conversation : List Exchange) (events more : List Stamp) → own port more ≡ []
      → Uploads grant conversation events
      → Uploads grant conversation (events ++ more)
  uploads_later grant conversation events more none is = record {
    early = is.early;
    clock = is.clock;
    late = is.late ++ more;
    page = is.page;
    kept = is.kept;
    split = further is.early is.late more (record { event = Changed port status.Uploading; clock = is.clock }) events is.split;
    shown = is.shown;
    told = subst (λ (es : List Event). Converses port connection es conversation) (sym (own_same port is.late more none)) is.told;
    port_is = is.port_is;
    vendor = is.vendor;
    device = is.device;
    there = is.there;
    revision = is.revision;
  }

  paging_later : (events more : List Stamp) (what : PageFor) → PagingTold events what → PagingTold (events ++ more) what
  paging_later events more (page_for.Comparing work own) is = said_later work events more is
  paging_later events more (page_for.Identifying work) is = said_later work events more is

  attending_later : (events more : List Stamp) (what : AttendFor) → own port more ≡ [] → AttendingTold events what
      → AttendingTold (events ++ more) what
  attending_later events more (attend.Waking own) none is = tt
  attending_later events more (attend.Confirming found property checksum) none is = record {
    conversation = is.conversation;
    state = is.state;
    sum = is.sum;
    shows = shows_later found is.conversation events more none is.shows;
    reads = is.reads;
    one = is.one;
    property_is = is.property_is;
    four = is.four;
    checksum_is = is.checksum_is;
  }
  attending_later events more attend.Restarting none is = tt

  pub stored_later : (events more : List Stamp) → own port more ≡ [] → WasStored first port connection events
      → WasStored first port connection (events ++ more)
  stored_later events more none is = record {
    number = is.number;
    stored = record {
      early = is.stored.early;
      clock = is.stored.clock;
      late = is.stored.late ++ more;
      revision = is.stored.revision;
      set = is.stored.set;
      told = is.stored.told;
      times = is.stored.times;
      split = further is.stored.early is.stored.late more
          (record { event = Accepted is.number (Store port is.stored.revision is.stored.set); clock = is.stored.clock }) events
          is.stored.split;
      uploaded = is.stored.uploaded;
      since = own_same port is.stored.late more none ∙ is.stored.since;
      busy = is.stored.busy;
    };
    durable = acknowledged_later is.number events more is.durable;
  }

  exchanging_later : (events more : List Stamp) (what : ExchangeFor) → own port more ≡ [] → ExchangingTold events what
      → ExchangingTold (events ++ more) what
  exchanging_later events more (exchange.ReadingState found left) none is = record {
    times = is.times;
    shows = shows_later found _ events more none is.shows;
    count = is.count;
    more = is.more;
  }
  exchanging_later events more (exchange.ReadingChecksum found property left) none is = record {
    front = is.front;
    state = is.state;
    times = is.times;
    shows = shows_later found _ events more none is.shows;
    reads = is.reads;
    one = is.one;
    property_is = is.property_is;
    count = is.count;
    more = is.more;
  }
  exchanging_later events more (exchange.EndingUpload page left) none is = stored_later events more none is
  exchanging_later events more (exchange.Stopping storing) none is = tt
  exchanging_later events more exchange.Yielding none is = tt

  filed_later : (number : ℕ) (events more : List Stamp) → own port more ≡ [] → IsFiled number events → IsFiled number (events ++ more)
  filed_later number events more none is = record {
    early = is.early;
    clock = is.clock;
    late = is.late ++ more;
    revision = is.revision;
    set = is.set;
    split = further is.early is.late more (record { event = Accepted number (Store port is.revision is.set); clock = is.clock })
        events is.split;
    uploaded = is.uploaded;
    since = own_same port is.late more none ∙ is.since;
  }

  downloads_later : (download : Sender) (events more : List Stamp) → own port more ≡ [] → Downloads download events
      → Downloads download (events ++ more)
  downloads_later download events more none is = record {
    early = is.early;
    clock = is.clock;
    late = is.late ++ more;
    page = is.page;
    stored = is.stored;
    conversation = is.conversation;
    split = further is.early is.late more (record { event = Changed port status.Downloading; clock = is.clock }) events is.split;
    shown = is.shown;
    told = subst (λ (es : List Event). Converses port connection es is.conversation) (sym (own_same port is.late more none)) is.told;
    durable = is.durable;
    vendor = is.vendor;
    device = is.device;
    set_is = is.set_is;
    since = is.since;
  }

  -- whatever the stage
  pub told_later : (events more : List Stamp) (stage : Stage) → own port more ≡ [] → Told events stage → Told (events ++ more) stage
  told_later events more (Settled own) none is = tt
  told_later events more (Paging what) none is = paging_later events more what is
  told_later events more (Attending what) none is = attending_later events more what none is
  told_later events more (BeginningUpload found) none is = begins_later decision.Upload found events more none is
  told_later events more (BeginningDownload found checksum) none is = begins_later decision.Download found events more none is
  told_later events more (Exchanging what) none is = exchanging_later events more what none is
  told_later events more (Uploading grant page upload) none is = record {
    conversation = is.conversation;
    uploads = uploads_later grant is.conversation events more none is.uploads;
    since = is.since;
  }
  told_later events more (Filing grant page set) none is = record {
    conversation = is.conversation;
    uploads = uploads_later grant is.conversation events more none is.uploads;
    finished = is.finished;
  }
  told_later events more (Filed page) none is = tt
  told_later events more (Storing number page) none is = filed_later number events more none is
  told_later events more (Downloading permit page download) none is = downloads_later download events more none is
  told_later events more (Breaking holder why) none is = tt
  told_later events more (Returning holder own) none is = tt
  told_later events more (Returned transfer own) none is = tt
