-- A port uploads, files the set, and ends the upload: what is reported.
use Rattle.std.proofs.Common.{◌≡◌, inl, inr, refl, ◌≤◌, ◌+◌, ◌-◌, nat_lt, nat_le, Bool, true, false, if◌then◌else◌, ℕ, List, [], ◌∷◌}
use Rattle.std.proofs.Common.{◌++◌, sym, ap, ◌∙◌, subst, arith, append_assoc, append-nil}
use Rattle.std.specs.Prelude.{Option, Some, None, Result, Ok, Err}
use Rattle.std.proofs.lemmas.Bool.Decides.{nat_tests}
use Rattle.std.proofs.lemmas.List.{replicate_more}
use Rattle.iol_types.specs.Command.{Store}
use Rattle.iol_types.specs.DataSet.{SetValue}
use Rattle.iol_types.specs.State.{State, Port, after, port_numbered}
use Rattle.iol_core.specs.Core.{CoreView, live}
use Rattle.iol_core.specs.Permits.{is_taken}
use Rattle.iol_core.specs.Submit.{is_stopped, ticket_state, writes_no_more}
use Rattle.iol_core.specs.Uploads.{IsBeginUpload, IsFinish, revision_of, upload_fault_at, store_of}
use Rattle.iol_core.specs.declared.permit.UploadGrant.{UploadGrant}
use Rattle.iol_core.specs.declared.ticket.TicketState.{TicketState}
use Rattle.iol_core.specs.declared.ticket.TicketState.TheVariants as ticket
use Rattle.iol_core.specs.declared.upload.FinishFault.{FinishFault}
use Rattle.iol_core.specs.declared.upload.FinishFault.TheVariants as finish
use Rattle.iol_core.specs.declared.upload.PermitFault.{PermitFault}
use Rattle.iol_core.specs.declared.upload.PermitFault.TheVariants as permit
use Rattle.iol_transfer.specs.declared.command.DsCommand.TheVariants as command
use Rattle.iol_link.specs.Page.{PageValue}
use Rattle.iol_link.specs.Isdu.{IsShortestRequest}
use Rattle.iol_link.specs.Reading.{answer_of}
use Rattle.iol_link.specs.declared.faults.IsduFault.{IsduFault}
use Rattle.iol_link.specs.declared.messages.Answer.{Answer}
use Rattle.iol_link.specs.declared.messages.Answer.TheVariants as answer
use Rattle.iol_link.specs.declared.messages.Request.{Request}
use Rattle.iol_transfer.proofs.Ending.{whole-finished}
use Rattle.iol_transfer.proofs.Feeding.{fed-more}
use Rattle.iol_transfer.specs.Command.{commanded}
use Rattle.iol_transfer.specs.Exchanges.{Exchange, busy_times}
use Rattle.iol_transfer.specs.Machine.{Machine, Outcome, More, Whole, Fault, step, asked, answered as next_exchange}
use Rattle.iol_transfer.specs.Upload.{IsFinished}
use Rattle.iol_transfer.specs.declared.fault.TransferFault.TheVariants as transfer
use Rattle.iol_transfer.specs.declared.repeats.TheConstants.{MOST_REQUESTS}
use Rattle.iol_transfer.specs.declared.upload.UploadStep.TheVariants as upload_step
use Rattle.iol_port.specs.Answers.{failed, upload_ended, uploaded, upload_answered, sent}
use Rattle.iol_port.specs.Faults.{write_fault}
use Rattle.iol_port.specs.declared.stage.Held.TheVariants as held
use Rattle.iol_port.specs.declared.stage.Rest.{Rest}
use Rattle.iol_port.specs.declared.stage.Rest.TheVariants as rest
use Rattle.iol_port.specs.Status.{status_of}
use Rattle.iol_headline.specs.Decisions.{IsExamined}
use Rattle.iol_port.specs.Heard.{upload_begun, upload_finished, ticket_told}
use Rattle.iol_port.specs.Stage.{Stage, Settled, Exchanging, Uploading, Filing, Storing, Breaking, IsStage}
use Rattle.iol_port.specs.declared.decision.Decision.{Decision}
use Rattle.iol_port.specs.declared.decision.Decision.TheVariants as decision
use Rattle.iol_port.specs.declared.fault.PortFault.TheVariants as fault
use Rattle.iol_port.specs.declared.fault.StoringFault.TheVariants as unstored
use Rattle.iol_port.specs.declared.stage.ExchangeFor.TheVariants as exchange
use Rattle.iol_port.specs.declared.stage.FoundDevice.{FoundDevice}
use Rattle.iol_port.specs.declared.status.PortStatus.{PortStatus}
use Rattle.iol_port.specs.declared.status.PortStatus.TheVariants as status
use Rattle.iol_engine.specs.PortRuns.{IsCoreAfter}
use Rattle.iol_engine.specs.PortSteps.{filed_told}
use Rattle.iol_core.specs.Events as trace
use Rattle.iol_core.specs.Events.{Event, Page, Attended, Accepted, Changed, Stamp, stamped}
use Rattle.iol_core.specs.Own.{own}
use Rattle.iol_core.specs.Statuses as shows
use Rattle.iol_core.specs.Words.{accepted}
use Rattle.iol_headline.proofs.Going.{Goes, settles, still, plain_began, holds_since, stays_since}
use Rattle.iol_headline.proofs.Reading.{exchanged_own}
use Rattle.iol_headline.proofs.Revisions.{Holds}
use Rattle.iol_headline.proofs.Stages.{Begins, Uploads, AsksUpload, IsWhole, IsFiled, Told, told_later, stored_later}
use Rattle.iol_headline.proofs.Stages.{acknowledged_later}
use Rattle.iol_headline.proofs.Talks.{talk_more, talk_connected, own_one, own_more, at_own}
use Rattle.iol_headline.specs.Conversations.{Converses, HasPage}
use Rattle.iol_headline.proofs.Lawful.{WasStored}
use Rattle.iol_headline.specs.WholeSets.{IsUploadedWhole}

-- statuses that differ
uploading_starts : status.Uploading ≡ status.Starting → ⊥
uploading_starts same = cc

storing_uploads : status.Storing ≡ status.Uploading → ⊥
storing_uploads same = cc

up_down : {port : ℕ} → Changed port shows.Uploading ∷ [] ≡ Changed port shows.Downloading ∷ [] → ⊥
up_down same = cc

-- a port that gives a permit to upload is there
upload_there : (core : CoreView) (port vendor device : ℕ)
    → (if is_stopped core then Some permit.Stopped else upload_fault_at (port_numbered (live core) port) vendor device (is_taken core port))
    ≡ None
    → (own : Port) × (port_numbered (live core) port ≡ Some own)
upload_there core port vendor device none = by (is_stopped core) (port_numbered (live core) port) refl none
  where
    by : (stopped : Bool) (found : Option Port) → port_numbered (live core) port ≡ found
        → (if stopped then Some permit.Stopped else upload_fault_at found vendor device (is_taken core port)) ≡ None
        → (own : Port) × (port_numbered (live core) port ≡ Some own)
    by true found at none = absurd cc
    by false None at none = absurd cc
    by false (Some own) at none = (own, at)

module _ (first : ℕ) (start : State) (port connection : ℕ) (events : List Stamp) (clock : ℕ) where
  -- an exchange with the device of the port
  abbrev exchanged : List ℕ → List ℕ → List Event
  exchanged octets back = trace.Exchange port connection octets back ∷ []

  -- the events with those of a step
  abbrev behind : List Event → List Stamp
  behind called = events ++ stamped clock called

  -- the stage after a step that reports this
  abbrev Leads : List Event → PortStatus → Stage → Type 0
  Leads called was stage = Goes first start port connection events clock called was stage

  -- the status stays
  stays : (called : List Event) (stage : Stage) → Told first start port connection (behind called) stage
      → Leads called (status_of stage) stage
  stays called stage is = still first start port connection events clock called stage is

  -- the port settles
  rests : (called : List Event) (was : PortStatus) (own : Rest) → Leads called was (Settled own)
  rests called was own = settles first start port connection events clock called was own

  -- the page by which it was decided
  pub page_shown : (now : Decision) (found : FoundDevice) → Begins first start port connection now found events
      → HasPage port connection found.page (own port events)
  page_shown now found is = subst (λ (c : ℕ). HasPage port c found.page (own port events)) is.on (record {
    before = is.examined.before;
    octets = is.examined.octets;
    since = is.examined.told ++ Attended port is.examined.work ∷ [];
    split = is.examined.split ∙ append_assoc is.examined.before (Page port is.examined.connection is.examined.octets ∷ is.examined.told)
        (Attended port is.examined.work ∷ []);
    page_is = is.page_is;
    connected = talk_connected port is.examined.connection is.examined.told
        (Attended port is.examined.work ∷ []) is.examined.conversation is.examined.talk tt;
  })

  -- ---- uploads

  -- the core gives a permit to upload, or refuses it
  pub upload_goes : (found : FoundDevice) (begins : Result UploadGrant PermitFault) (old new : CoreView)
      → IsCoreAfter first start events old
      → Begins first start port connection decision.Upload found events
      → IsBeginUpload old port found.page.vendor found.page.device found.connection new begins
      → Leads [] status.Starting (upload_begun found.page begins)
  upload_goes found (Err why) old new core is begins = rests [] status.Starting (rest.Failed (fault.Permit why))
  upload_goes found (Ok grant) old new core is begins = by
    where
      there : (own : Port) × (port_numbered (live old) port ≡ Some own)
      there = upload_there old port found.page.vendor found.page.device begins.0

      examined : IsExamined decision.Upload port (own port (events ++ []))
      examined = subst (λ (es : List Stamp). IsExamined decision.Upload port (own port es)) (sym (append-nil events)) is.examined

      by : Leads [] status.Starting (upload_begun found.page (Ok grant))
      by told (inl same) = absurd (uploading_starts same.1)
      by told (inr now) = (
        record {
          conversation = [];
          uploads = record {
            early = events;
            clock = clock;
            late = [];
            page = found.page;
            kept = there.0;
            split = ap (λ (es : List Event). events ++ stamped clock es) now.0;
            shown = page_shown decision.Upload found is;
            told = refl;
            port_is = ap (λ (g : UploadGrant). g.port) begins.1;
            vendor = ap (λ (g : UploadGrant). g.vendor) begins.1;
            device = ap (λ (g : UploadGrant). g.device) begins.1;
            there = ap (λ (s : State). port_numbered s port) (sym core.live) ∙ there.1;
            revision = ap (λ (g : UploadGrant). g.revision) begins.1 ∙ ap revision_of there.1;
          };
          since = refl;
        },
        ((λ one. examined), (λ one. absurd (up_down (sym now.0 ∙ one)))),
      )

  -- one more exchange
  uploads_more : (grant : UploadGrant) (conversation : List Exchange) (octets back : List ℕ) (sent : Request) (heard : Answer)
      → IsShortestRequest octets sent
      → answer_of back ≡ Ok heard → Uploads first start port connection grant conversation events
      → Uploads first start port connection grant (conversation ++ record { request = sent; answer = heard } ∷ [])
      (behind (exchanged octets back))
  uploads_more grant conversation octets back sent heard spelled said is = record {
    early = is.early;
    clock = is.clock;
    late = is.late ++ stamped clock (exchanged octets back);
    page = is.page;
    kept = is.kept;
    split =
        ap (λ (es : List Stamp). es ++ stamped clock (exchanged octets back)) is.split
        ∙ append_assoc is.early (record { event = Changed port shows.Uploading; clock = is.clock } ∷ is.late)
        (stamped clock (exchanged octets back));
    shown = is.shown;
    told = subst (λ (es : List Event). Converses port connection es (conversation ++ record { request = sent; answer = heard } ∷ []))
        (sym (own_more port is.late (stamped clock (exchanged octets back)) _
        (exchanged_own first start port connection events clock octets back)))
        (talk_more port connection (own port is.late) conversation octets back sent heard spelled said is.told);
    port_is = is.port_is;
    vendor = is.vendor;
    device = is.device;
    there = is.there;
    revision = is.revision;
  }

  -- the answer to a request of an upload
  pub uploaded_goes : (grant : UploadGrant) (page : PageValue) (upload : Machine) (octets back : List ℕ) (heard : Result Answer IsduFault)
      → IsShortestRequest octets (asked upload)
      → AsksUpload first start port connection grant upload events → answer_of back ≡ heard
      → IsStage (upload_answered grant page upload heard)
      → Leads (exchanged octets back) status.Uploading (upload_answered grant page upload heard)
  uploaded_goes grant page upload octets back (Err why) spelled is read good =
      stays (exchanged octets back) (Breaking (held.Upload grant) (fault.Isdu why)) tt
  uploaded_goes grant page upload octets back (Ok said) spelled is read good = by (step upload said) refl good
    where
      by : (outcome : Outcome) → step upload said ≡ outcome → IsStage (uploaded grant page outcome)
          → Leads (exchanged octets back) status.Uploading (uploaded grant page outcome)
      by (More next) goes good = stays (exchanged octets back) (Uploading grant page next) (record {
        conversation = is.conversation ++ next_exchange upload said ∷ [];
        uploads = uploads_more grant is.conversation octets back (asked upload) said spelled read is.uploads;
        since = fed-more upload next said upload_step.More goes grant.vendor grant.device is.conversation is.since;
      })
      by (Whole set) goes good = stays (exchanged octets back) (Filing grant page set) (record {
        conversation = is.conversation ++ next_exchange upload said ∷ [];
        uploads = uploads_more grant is.conversation octets back (asked upload) said spelled read is.uploads;
        finished = whole-finished grant.vendor grant.device is.conversation upload said set is.since goes good.set_is;
      })
      by (Fault why) goes good = stays (exchanged octets back) (Breaking (held.Upload grant) (fault.Transfer why)) tt

  -- the set of a finished upload may be filed: nothing has disturbed it
  pub whole_set : (grant : UploadGrant) (set : SetValue) (old : CoreView) → IsCoreAfter first start events old
      → IsWhole first start port connection grant set events
      → revision_of (port_numbered (live old) grant.port) ≡ grant.revision → IsUploadedWhole port connection set events
  whole_set grant set old core is at = record {
    early = is.uploads.early;
    clock = is.uploads.clock;
    late = is.uploads.late;
    page = is.uploads.page;
    conversation = is.conversation;
    split = is.uploads.split;
    shown = is.uploads.shown;
    told = is.uploads.told;
    finished = subst (λ (v : ℕ). IsFinished v is.uploads.page.device is.conversation set) is.uploads.vendor
        (subst (λ (d : ℕ). IsFinished grant.vendor d is.conversation set) is.uploads.device is.finished);
    undisturbed = held.undisturbed (sym (ap revision_of later.1) ∙ (revision ∙ is.uploads.revision));
  }
    where
      begun : Stamp
      begun = record { event = Changed port shows.Uploading; clock = is.uploads.clock }

      later : (q : Port) × (port_numbered (after start (accepted events)) port ≡ Some q)
      later = stays_since first start port connection events is.uploads.early
          (begun ∷ is.uploads.late) is.uploads.kept is.uploads.split is.uploads.there

      held : Holds port is.uploads.kept later.0 (accepted is.uploads.late)
      held = holds_since first start port connection events is.uploads.early
          (begun ∷ is.uploads.late) is.uploads.kept later.0 is.uploads.split is.uploads.there later.1

      revision : revision_of (port_numbered (after start (accepted events)) port) ≡ grant.revision
      revision = ap (λ (s : State). revision_of (port_numbered s port)) (sym core.live)
          ∙ (ap (λ (p : ℕ). revision_of (port_numbered (live old) p)) (sym is.uploads.port_is) ∙ at)

  -- the core takes the set, or refuses it
  pub filed_goes : (grant : UploadGrant) (page : PageValue) (set : SetValue) (finished : Result ℕ FinishFault) (old new : CoreView)
      → IsCoreAfter first start events old
      → IsWhole first start port connection grant set events → IsFinish old grant set new finished
      → Leads (filed_told (Some (store_of grant set)) finished) status.Uploading (upload_finished page finished)
  filed_goes grant page set (Ok number) old new core is filed = by
    where
      by : Leads (Accepted number (store_of grant set) ∷ []) status.Uploading (Storing number page)
      by told (inl same) = absurd (storing_uploads same.1)
      by told (inr now) = (
        record {
          early = events;
          clock = clock;
          late = stamped clock (Changed port shows.Storing ∷ []);
          revision = grant.revision;
          set = set;
          split =
              ap (λ (es : List Event). events ++ stamped clock (Accepted number (store_of grant set) ∷ es)) now.0
              ∙ ap (λ (p : ℕ). events ++ stamped clock (Accepted number (Store p grant.revision set) ∷ Changed port shows.Storing ∷ []))
              is.uploads.port_is;
          uploaded = whole_set grant set old core is filed.0.revision;
          since = own_one port clock (Changed port shows.Storing) (at_own port (Changed port shows.Storing));
        },
        plain_began port (events ++ stamped clock (Accepted number (store_of grant set) ∷ [])) status.Uploading status.Storing told tt
            (inr now),
      )
  filed_goes grant page set (Err finish.Stopped) old new core is filed = stays [] (Exchanging (exchange.Stopping false)) tt
  filed_goes grant page set (Err finish.ConfigChanged) old new core is filed = stays [] (Exchanging exchange.Yielding) tt
  filed_goes grant page set (Err (finish.QueueFull permit back)) old new core is filed =
      stays [] (Filing permit page back.value)
      (subst (λ (g : UploadGrant). Told first start port connection (events ++ []) (Filing g page back.value)) (sym filed.2)
      (subst (λ (s : SetValue). Told first start port connection (events ++ []) (Filing grant page s)) (sym filed.3)
      (told_later first start port connection events [] (Filing grant page set) refl is)))
  filed_goes grant page set (Err (finish.Exhausted permit back)) old new core is filed =
      stays [] (Breaking (held.Upload permit) (fault.Storing unstored.Exhausted)) tt
  filed_goes grant page set (Err (finish.Memory permit back)) old new core is filed =
      stays [] (Breaking (held.Upload permit) (fault.Transfer transfer.Memory)) tt

  -- a ticket that is durable is not above the core's number
  durable_below : (old : CoreView) (number : ℕ) → ticket_state old number ≡ ticket.Durable → number ≤ old.number
  durable_below old number is = by (nat_le number old.number) refl (writes_no_more old.stopped) is
    where
      by : (test : Bool) → nat_le number old.number ≡ test → (lost : Bool)
          → (if test then ticket.Durable else if lost then ticket.Unsure else ticket.Waiting) ≡ ticket.Durable → number ≤ old.number
      by true below lost is = grind (arith, nat_tests, below)
      by false below true is = absurd cc
      by false below false is = absurd cc

  -- the core says whether the set is durable
  pub ticket_goes : (number : ℕ) (page : PageValue) (state : TicketState) (old : CoreView) → IsCoreAfter first start events old
      → IsFiled first start port connection number events
      → state ≡ ticket_state old number → Leads [] status.Storing (ticket_told number page state)
  ticket_goes number page ticket.Waiting old core is at =
      stays [] (Storing number page) (told_later first start port connection events [] (Storing number page) refl is)
  ticket_goes number page ticket.Durable old core is at =
      stays [] (Exchanging (exchange.EndingUpload page MOST_REQUESTS))
      (stored_later first start port connection events [] refl (record {
        number = number;
        stored = record {
          early = is.early;
          clock = is.clock;
          late = is.late;
          revision = is.revision;
          set = is.set;
          told = [];
          times = 0;
          split = is.split;
          uploaded = is.uploaded;
          since = is.since;
          busy = refl;
        };
        durable = record {
          upto = events;
          more = [];
          split = sym (append-nil events);
          enough = subst (λ (n : ℕ). number ≤ n) core.number (durable_below old number (sym at));
        };
      }))
  ticket_goes number page ticket.Unsure old core is at = stays [] (Exchanging (exchange.Stopping true)) tt

  -- the answer to DS_UploadEnd
  pub ending_goes : (page : PageValue) (left : ℕ) (octets back : List ℕ) (heard : Result Answer IsduFault)
      → IsShortestRequest octets (commanded command.UploadEnd)
      → WasStored first port connection events → answer_of back ≡ heard
      → Leads (exchanged octets back) status.Storing (upload_ended page left heard)
  ending_goes page left octets back (Ok answer.Busy) spelled is read = by (nat_lt 1 left)
    where
      by : (test : Bool) → Leads (exchanged octets back) status.Storing
          (if test then Exchanging (exchange.EndingUpload page (left - 1)) else failed (fault.Transfer transfer.Busy))
      by true = stays (exchanged octets back) (Exchanging (exchange.EndingUpload page (left - 1))) (record {
        number = is.number;
        stored = record {
          early = is.stored.early;
          clock = is.stored.clock;
          late = is.stored.late ++ stamped clock (exchanged octets back);
          revision = is.stored.revision;
          set = is.stored.set;
          told = is.stored.told ++ exchanged octets back;
          times = is.stored.times + 1;
          split =
              ap (λ (es : List Stamp). es ++ stamped clock (exchanged octets back)) is.stored.split
              ∙ append_assoc is.stored.early
              (record { event = Accepted is.number (Store port is.stored.revision is.stored.set); clock = is.stored.clock } ∷
              is.stored.late)
              (stamped clock (exchanged octets back));
          uploaded = is.stored.uploaded;
          since =
              own_more port is.stored.late (stamped clock (exchanged octets back)) _
              (exchanged_own first start port connection events clock octets back)
              ∙ ap (λ (es : List Event). es ++ exchanged octets back) is.stored.since;
          busy = subst (λ (c : List Exchange). Converses port connection (is.stored.told ++ exchanged octets back) c)
              (replicate_more is.stored.times _)
              (talk_more port connection is.stored.told (busy_times is.stored.times (commanded command.UploadEnd)) octets back
              (commanded command.UploadEnd) answer.Busy spelled read is.stored.busy);
        };
        durable = acknowledged_later first start port connection is.number events (stamped clock (exchanged octets back)) is.durable;
      })
      by false = rests (exchanged octets back) status.Storing (rest.Failed (fault.Transfer transfer.Busy))
  ending_goes page left octets back (Ok answer.WriteOk) spelled is read = rests (exchanged octets back) status.Storing (rest.Ready page)
  ending_goes page left octets back other spelled is read = rests (exchanged octets back) status.Storing (rest.Failed (write_fault other))
