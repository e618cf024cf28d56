-- A device is found and read, and a decision is taken: what is reported.
use Rattle.std.proofs.Common.{◌≡◌, refl, ◌+◌, ◌-◌, ◌<◌, nat_lt, Bool, true, false, if◌then◌else◌, ℕ, List, [], ◌∷◌, ◌++◌, length, sym, ap}
use Rattle.std.proofs.Common.{◌∙◌, subst, arith, lit<, append_assoc, append-nil}
use Rattle.std.specs.Prelude.{Option, Some, None, Result, Ok, ◌&&◌, ◌==◌, not, slice_index}
use Rattle.std.proofs.lemmas.Bool.{ltb-true}
use Rattle.std.proofs.lemmas.Bool.Decides.{nat_tests}
use Rattle.std.proofs.lemmas.List.{replicate_more}
use Rattle.iol_types.specs.Config.{restores}
use Rattle.iol_types.specs.State.{State}
use Rattle.iol_types.specs.declared.config.PortConfig.{PortConfig}
use Rattle.iol_types.specs.declared.key.TheConstants.{DATA_STORAGE}
use Rattle.iol_core.specs.Core.{CoreView}
use Rattle.iol_core.specs.Telling.{work_told}
use Rattle.iol_core.specs.declared.port.Work.{Work}
use Rattle.iol_transfer.specs.Property.{PropertyValue, property_of}
use Rattle.iol_transfer.specs.declared.object.TheConstants.{STATE_PROPERTY, PARAMETER_CHECKSUM}
use Rattle.iol_link.specs.Page.{PageValue, page_of}
use Rattle.iol_link.specs.Validation.{ident_fault}
use Rattle.iol_link.specs.declared.validation.IdentFault.{IdentFault}
use Rattle.iol_link.specs.Isdu.{IsShortestRequest}
use Rattle.iol_link.specs.Reading.{answer_of}
use Rattle.iol_link.specs.declared.faults.IsduFault.{IsduFault}
use Rattle.iol_link.specs.declared.messages.Answer.{Answer}
use Rattle.iol_link.specs.declared.messages.Answer.TheVariants as answer
use Rattle.iol_link.specs.declared.messages.Request.{Request}
use Rattle.iol_transfer.proofs.Order.{follows-more}
use Rattle.iol_transfer.specs.Exchanges.{Exchange, busy_times, read_of}
use Rattle.iol_transfer.specs.Upload.{number_of}
use Rattle.iol_transfer.specs.declared.fault.TransferFault.TheVariants as transfer
use Rattle.iol_transfer.specs.declared.repeats.TheConstants.{MOST_REQUESTS}
use Rattle.iol_port.proofs.Stages.{state_request, checksum_request}
use Rattle.iol_port.specs.Answers.{failed, state_read, checksum_read}
use Rattle.iol_port.specs.Decision.{decide}
use Rattle.iol_port.specs.Faults.{read_fault}
use Rattle.iol_port.specs.Heard.{page_heard, settled_with, found_by, judged, resumed, is_under, decided, attended}
use Rattle.iol_port.specs.Stage.{Stage, Next, Settled, Paging, Attending, BeginningUpload, BeginningDownload, Exchanging, To, Start}
use Rattle.iol_port.specs.Status.{status_of, status_at_rest, status_paging, status_attending}
use Rattle.iol_port.specs.declared.decision.Decision.{Decision}
use Rattle.iol_port.specs.declared.decision.Decision.TheVariants as decision
use Rattle.iol_port.specs.declared.fault.PortFault.TheVariants as fault
use Rattle.iol_port.specs.declared.stage.AttendFor.{AttendFor}
use Rattle.iol_port.specs.declared.stage.AttendFor.TheVariants as attend
use Rattle.iol_port.specs.declared.stage.ExchangeFor.TheVariants as exchange
use Rattle.iol_port.specs.declared.stage.FoundDevice.{FoundDevice}
use Rattle.iol_port.specs.declared.stage.PageFor.{PageFor}
use Rattle.iol_port.specs.declared.stage.PageFor.TheVariants as page_for
use Rattle.iol_port.specs.declared.stage.Rest.{Rest}
use Rattle.iol_port.specs.declared.stage.Rest.TheVariants as rest
use Rattle.iol_port.specs.declared.status.PortStatus.{PortStatus}
use Rattle.iol_port.specs.declared.status.PortStatus.TheVariants as status
use Rattle.iol_engine.specs.PortRuns.{IsCoreAfter}
use Rattle.iol_engine.specs.PortSteps.{attended_told}
use Rattle.iol_core.specs.Events as trace
use Rattle.iol_core.specs.Events.{Event, Page, Attended, Stamp, stamped}
use Rattle.iol_core.specs.Own.{own}
use Rattle.iol_headline.proofs.Going.{Goes, NextGoes, settles, still, IsSaid, was_said, holds_since}
use Rattle.iol_headline.proofs.Stages.{WasSaid, Shows, IsRead, AsksState, AsksChecksum, Begins, PagingTold, AttendingTold, Told, said_later}
use Rattle.iol_headline.proofs.Talks.{talk_more, own_one, own_more, at_own}

-- a length that was tested
is_length : (octets : List ℕ) (count : ℕ) → (length octets == count) ≡ true → length octets ≡ count
is_length octets count test = grind (arith, nat_tests, test)

module _ (first : ℕ) (start : State) (port connection : ℕ) (events : List Stamp) (clock : ℕ) where
  -- an exchange with the device of the port
  abbrev exchanged : List ℕ → List ℕ → List Event
  exchanged octets back = trace.Exchange port connection octets back ∷ []

  -- the page of its device
  abbrev paged : List ℕ → List Event
  paged octets = Page port connection octets ∷ []

  -- the events with those of a step
  abbrev behind : List Event → List Stamp
  behind called = events ++ stamped clock called

  -- the stage after a step that reports this
  abbrev Leads : List Event → PortStatus → Stage → Type 0
  Leads called was stage = Goes first start port connection events clock called was stage

  abbrev NextLeads : List Event → PortStatus → Next → Type 0
  NextLeads called was next = NextGoes first start port connection events clock called was next

  -- the status stays
  stays : (called : List Event) (stage : Stage) → Told first start port connection (behind called) stage
      → Leads called (status_of stage) stage
  stays called stage is = still first start port connection events clock called stage is

  -- the port settles
  rests : (called : List Event) (was : PortStatus) (own : Rest) → Leads called was (Settled own)
  rests called was own = settles first start port connection events clock called was own

  -- one event more, of the port's own
  told_own : (e : Event) → (told : List Event) → own port events ≡ told → own port (stamped clock (e ∷ [])) ≡ e ∷ []
      → own port (events ++ stamped clock (e ∷ [])) ≡ told ++ e ∷ []
  told_own e told is one = own_more port events (stamped clock (e ∷ [])) (e ∷ []) one ∙ ap (λ (es : List Event). es ++ e ∷ []) is

  -- one more exchange
  pub exchanged_own : (octets back : List ℕ)
      → own port (stamped clock (exchanged octets back)) ≡ trace.Exchange port connection octets back ∷ []
  exchanged_own octets back =
      own_one port clock (trace.Exchange port connection octets back) (at_own port (trace.Exchange port connection octets back))

  -- the page is still the last one
  shows_more : (found : FoundDevice) (conversation : List Exchange) (octets back : List ℕ) (sent : Request) (heard : Answer)
      → IsShortestRequest octets sent
      → answer_of back ≡ Ok heard → Shows first start port connection found conversation events
      → Shows first start port connection found (conversation ++ record { request = sent; answer = heard } ∷ [])
      (behind (exchanged octets back))
  shows_more found conversation octets back sent heard spelled said is = record {
    before = is.before;
    octets = is.octets;
    told = is.told ++ trace.Exchange port connection octets back ∷ [];
    split =
        told_own (trace.Exchange port connection octets back) _ is.split (exchanged_own octets back)
        ∙ append_assoc is.before (Page port connection is.octets ∷ is.told) (exchanged octets back);
    page_is = is.page_is;
    talk = talk_more port connection is.told conversation octets back sent heard spelled said is.talk;
    wanted = is.wanted;
    said = said_later first start port connection found.work events _ is.said;
  }

  -- ---- pages

  -- the device is the one that the port wants
  found_goes : (work : Work) (octets : List ℕ) → WasSaid first start port connection work events
      → ident_fault work.config (page_of octets) ≡ None
      → Leads (paged octets) status.Starting (found_by work connection (page_of octets))
  found_goes work octets said wanted = by (restores work.config.validation)
    where
      by : (test : Bool) → Leads (paged octets) status.Starting
          (if test then Exchanging (exchange.ReadingState (record { work = work; page = page_of octets; connection = connection })
          MOST_REQUESTS)
          else Settled (rest.Ready (page_of octets)))
      by true = stays (paged octets)
          (Exchanging (exchange.ReadingState (record { work = work; page = page_of octets; connection = connection }) MOST_REQUESTS))
          (record {
            times = 0;
            shows = record {
              before = own port events;
              octets = octets;
              told = [];
              split = told_own (Page port connection octets) _ refl
                  (own_one port clock (Page port connection octets) (at_own port (Page port connection octets)));
              page_is = refl;
              talk = refl;
              wanted = wanted;
              said = said_later first start port connection work events _ said;
            };
            count = omega arith;
            more = lit< tt;
          })
      by false = rests (paged octets) status.Starting (rest.Ready (page_of octets))

  -- its page is judged
  judged_goes : (work : Work) (octets : List ℕ) (why : Option IdentFault) → WasSaid first start port connection work events
      → ident_fault work.config (page_of octets) ≡ why
      → Leads (paged octets) status.Starting (judged work connection (page_of octets) why)
  judged_goes work octets None said is = found_goes work octets said is
  judged_goes work octets (Some why) said is = rests (paged octets) status.Starting (rest.Mismatch why (page_of octets))

  -- the page of the device
  pub page_goes : (what : PageFor) (octets : List ℕ) → PagingTold first start port connection events what
      → NextLeads (paged octets) (status_paging what) (page_heard what connection (page_of octets))
  page_goes (page_for.Comparing work own) octets said = by (settled_with own (page_of octets))
    where
      by : (test : Bool) → NextLeads (paged octets) (status_at_rest own) (if test then To (Settled own) else Start work)
      by true = rests (paged octets) (status_at_rest own) own
      by false = said
  page_goes (page_for.Identifying work) octets said = judged_goes work octets (ident_fault work.config (page_of octets)) said refl

  -- ---- State_Property and Parameter_Checksum

  -- the answer to a read of State_Property
  pub state_goes : (found : FoundDevice) (left : ℕ) (octets back : List ℕ) (heard : Result Answer IsduFault)
      → IsShortestRequest octets state_request
      → AsksState first start port connection found left events → answer_of back ≡ heard
      → Leads (exchanged octets back) status.Starting (state_read found left heard)
  state_goes found left octets back (Ok (answer.ReadOk values)) spelled is read = by (length values.items == 1) refl
    where
      few : is.times < MOST_REQUESTS
      few = let count = is.count in let more = is.more in omega (arith, count, more)

      by : (test : Bool) → (length values.items == 1) ≡ test
          → Leads (exchanged octets back) status.Starting
          (if test then Exchanging (exchange.ReadingChecksum found (property_of (slice_index values.items 0)) MOST_REQUESTS)
          else failed (fault.Transfer transfer.Unexpected))
      by true one = stays (exchanged octets back)
          (Exchanging (exchange.ReadingChecksum found (property_of (slice_index values.items 0)) MOST_REQUESTS)) (record {
            front = busy_times is.times state_request ++ read_of DATA_STORAGE STATE_PROPERTY values.items ∷ [];
            state = values.items;
            times = 0;
            shows = subst (λ (c : List Exchange). Shows first start port connection found c (behind (exchanged octets back)))
                (sym (append-nil _))
                (shows_more found (busy_times is.times state_request) octets back state_request
                (answer.ReadOk values) spelled read is.shows);
            reads = follows-more [] [] is.times (read_of DATA_STORAGE STATE_PROPERTY values.items) refl few;
            one = is_length values.items 1 one;
            property_is = refl;
            count = omega arith;
            more = lit< tt;
          })
      by false one = rests (exchanged octets back) status.Starting (rest.Failed (fault.Transfer transfer.Unexpected))
  state_goes found left octets back (Ok answer.Busy) spelled is read = by (nat_lt 1 left) refl
    where
      by : (test : Bool) → nat_lt 1 left ≡ test
          → Leads (exchanged octets back) status.Starting
          (if test then Exchanging (exchange.ReadingState found (left - 1)) else failed (fault.Transfer transfer.Busy))
      by true below = stays (exchanged octets back)
          (Exchanging (exchange.ReadingState found (left - 1))) (record {
            times = is.times + 1;
            shows = subst (λ (c : List Exchange). Shows first start port connection found c (behind (exchanged octets back)))
                (replicate_more is.times _)
                (shows_more found (busy_times is.times state_request) octets back state_request answer.Busy spelled read is.shows);
            count = let count = is.count in let more : 1 < left = ltb-true 1 left below in omega (arith, count, more);
            more = let more : 1 < left = ltb-true 1 left below in omega (arith, more);
          })
      by false below = rests (exchanged octets back) status.Starting (rest.Failed (fault.Transfer transfer.Busy))
  state_goes found left octets back other spelled is read = rests (exchanged octets back) status.Starting (rest.Failed (read_fault other))

  -- the answer to a read of Parameter_Checksum
  pub checksum_goes : (found : FoundDevice) (property : PropertyValue) (left : ℕ) (octets back : List ℕ) (heard : Result Answer IsduFault)
      → IsShortestRequest octets checksum_request
      → AsksChecksum first start port connection found property left events → answer_of back ≡ heard
      → Leads (exchanged octets back) status.Starting (checksum_read found property left heard)
  checksum_goes found property left octets back (Ok (answer.ReadOk values)) spelled is read = by (length values.items == 4) refl
    where
      few : is.times < MOST_REQUESTS
      few = let count = is.count in let more = is.more in omega (arith, count, more)

      by : (test : Bool) → (length values.items == 4) ≡ test
          → Leads (exchanged octets back) status.Starting
          (if test then Attending (attend.Confirming found property (number_of values.items))
          else failed (fault.Transfer transfer.Unexpected))
      by true four = stays (exchanged octets back)
          (Attending (attend.Confirming found property (number_of values.items))) (record {
            conversation = (is.front ++ busy_times is.times checksum_request) ++ read_of DATA_STORAGE PARAMETER_CHECKSUM values.items ∷ [];
            state = is.state;
            sum = values.items;
            shows = shows_more found (is.front ++ busy_times is.times checksum_request) octets back checksum_request
                (answer.ReadOk values) spelled read is.shows;
            reads = follows-more is.front (read_of DATA_STORAGE STATE_PROPERTY is.state ∷ []) is.times
                (read_of DATA_STORAGE PARAMETER_CHECKSUM values.items) is.reads few;
            one = is.one;
            property_is = is.property_is;
            four = is_length values.items 4 four;
            checksum_is = refl;
          })
      by false four = rests (exchanged octets back) status.Starting (rest.Failed (fault.Transfer transfer.Unexpected))
  checksum_goes found property left octets back (Ok answer.Busy) spelled is read = by (nat_lt 1 left) refl
    where
      by : (test : Bool) → nat_lt 1 left ≡ test
          → Leads (exchanged octets back) status.Starting
          (if test then Exchanging (exchange.ReadingChecksum found property (left - 1)) else failed (fault.Transfer transfer.Busy))
      by true below = stays (exchanged octets back)
          (Exchanging (exchange.ReadingChecksum found property (left - 1))) (record {
            front = is.front;
            state = is.state;
            times = is.times + 1;
            shows = subst (λ (c : List Exchange). Shows first start port connection found c (behind (exchanged octets back)))
                (append_assoc is.front (busy_times is.times checksum_request) _
                ∙ ap (λ (b : List Exchange). is.front ++ b) (replicate_more is.times _))
                (shows_more found (is.front ++ busy_times is.times checksum_request)
                octets back checksum_request answer.Busy spelled read is.shows);
            reads = is.reads;
            one = is.one;
            property_is = is.property_is;
            count = let count = is.count in let more : 1 < left = ltb-true 1 left below in omega (arith, count, more);
            more = let more : 1 < left = ltb-true 1 left below in omega (arith, more);
          })
      by false below = rests (exchanged octets back) status.Starting (rest.Failed (fault.Transfer transfer.Busy))
  checksum_goes found property left octets back other spelled is read =
      rests (exchanged octets back) status.Starting (rest.Failed (read_fault other))

  -- ---- what the core says

  -- a settled port is woken
  resumed_goes : (own : Rest) (work : Work) → WasSaid first start port connection work events
      → NextLeads (attended_told port (Some work)) (status_at_rest own) (resumed own work)
  resumed_goes rest.Off work said = rests (attended_told port (Some work)) status.Off rest.Off
  resumed_goes rest.Lost work said = said
  resumed_goes (rest.Failed why) work said = said
  resumed_goes own work said =
      stays (attended_told port (Some work)) (Paging (page_for.Comparing work own))
      (said_later first start port connection work events _ said)

  module _ (old : CoreView) (core : IsCoreAfter first start events old) where
    -- it was decided so, from what was read and what the core says now
    begins : (now : Decision) (found : FoundDevice) (property : PropertyValue) (checksum : ℕ) (work : Work)
        → IsRead first start port connection found property checksum events
        → IsSaid first start port connection work old events → found.work.revision ≡ work.revision
        → decide work.config.validation property.state property.flag checksum work.checksum ≡ now
        → Begins first start port connection now found (events ++ stamped clock (attended_told port (Some work)))
    begins now found property checksum work is said same decided = record {
      examined = record {
        before = is.shows.before;
        connection = connection;
        octets = is.shows.octets;
        told = is.shows.told;
        work = work_told work;
        conversation = is.conversation;
        state = is.state;
        sum = is.sum;
        split = told_own (Attended port (work_told work)) _ is.shows.split
            (own_one port clock (Attended port (work_told work)) (at_own port (Attended port (work_told work))));
        talk = is.shows.talk;
        reads = is.reads;
        one = is.one;
        four = is.four;
        wanted = subst (λ (c : PortConfig). ident_fault c (page_of is.shows.octets) ≡ None) config
            (subst (λ (p : PageValue). ident_fault found.work.config p ≡ None) is.shows.page_is is.shows.wanted);
        decided = subst (λ (p : PropertyValue). decide work.config.validation p.state p.flag (number_of is.sum) work.checksum ≡ now)
            is.property_is
            (subst (λ (n : ℕ). decide work.config.validation property.state property.flag n work.checksum ≡ now) is.checksum_is decided);
      };
      on = refl;
      page_is = is.shows.page_is;
    }
      where
        earlier : WasSaid first start port connection found.work events
        earlier = is.shows.said

        config : found.work.config ≡ work.config
        config =
            let held = holds_since first start port connection events earlier.upto earlier.more earlier.kept said.kept earlier.split
            earlier.there said.there in
            let later = ap (λ (w : Work). w.config) said.work_is in
            let revision = ap (λ (w : Work). w.revision) said.work_is in
            earlier.config ∙ (sym (held.config (sym revision ∙ (sym same ∙ earlier.revision))) ∙ sym later)

    -- each decision
    decided_goes : (found : FoundDevice) (property : PropertyValue) (checksum : ℕ) (work : Work) (now : Decision)
        → IsRead first start port connection found property checksum events
        → IsSaid first start port connection work old events → found.work.revision ≡ work.revision
        → decide work.config.validation property.state property.flag checksum work.checksum ≡ now
        → Leads (attended_told port (Some work)) status.Starting (decided found checksum now)
    decided_goes found property checksum work decision.Ready is said same now =
        rests (attended_told port (Some work)) status.Starting (rest.Ready found.page)
    decided_goes found property checksum work decision.ReadyLocked is said same now =
        rests (attended_told port (Some work)) status.Starting (rest.ReadyLocked found.page)
    decided_goes found property checksum work decision.ReadyEmpty is said same now =
        rests (attended_told port (Some work)) status.Starting (rest.ReadyEmpty found.page)
    decided_goes found property checksum work decision.Upload is said same now =
        stays (attended_told port (Some work)) (BeginningUpload found)
        (begins decision.Upload found property checksum work is said same now)
    decided_goes found property checksum work decision.Download is said same now =
        stays (attended_told port (Some work)) (BeginningDownload found checksum)
        (begins decision.Download found property checksum work is said same now)

    -- what the core says that the port is to work with
    pub attended_goes : (started : Option ℕ) (requested : Bool) (what : AttendFor) (work : Work)
        → AttendingTold first start port connection events what
        → IsSaid first start port connection work old events
        → NextLeads (attended_told port (Some work)) (status_attending what) (attended started requested what (Some work))
    attended_goes started requested (attend.Waking own) work is said = by (is_under started work.revision && not requested)
      where
        by : (test : Bool) → NextLeads (attended_told port (Some work)) (status_at_rest own) (if test then resumed own work else Start work)
        by true = resumed_goes own work (was_said first start port connection events old work said)
        by false = was_said first start port connection events old work said
    attended_goes started requested (attend.Confirming found property checksum) work is said =
        by (found.work.revision == work.revision) refl
      where
        by : (test : Bool) → (found.work.revision == work.revision) ≡ test
            → NextLeads (attended_told port (Some work)) status.Starting
            (if test then To (decided found checksum (decide work.config.validation property.state property.flag checksum work.checksum))
            else Start work)
        by true same = decided_goes found property checksum work _ is said (grind (arith, nat_tests, same)) refl
        by false same = was_said first start port connection events old work said
    attended_goes started requested attend.Restarting work is said = was_said first start port connection events old work said
