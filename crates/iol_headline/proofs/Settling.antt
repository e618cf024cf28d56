-- The stage after a step of a port, and what the port settles by.
use Rattle.std.proofs.Common.{◌≡◌, inl, inr, refl, ◌-◌, nat_lt, Bool, true, false, if◌then◌else◌, ℕ, List, [], ◌∷◌, ◌++◌, length, sym, ap}
use Rattle.std.proofs.Common.{◌∙◌, subst, append-nil}
use Rattle.std.specs.Prelude.{Option, Some, None, Result, Ok, Err, ◌&&◌, ◌==◌, not, slice_index}
use Rattle.std.proofs.lemmas.Bool.Decides.{nat_tests}
use Rattle.std.proofs.Common.{arith}
use Rattle.iol_types.specs.Config.{is_manual, restores}
use Rattle.iol_types.specs.declared.config.PortConfig.{PortConfig}
use Rattle.iol_core.specs.Telling.{work_told}
use Rattle.iol_core.specs.declared.download.DownloadBegun.{DownloadBegun}
use Rattle.iol_core.specs.declared.download.DownloadFault.{DownloadFault}
use Rattle.iol_core.specs.declared.permit.UploadGrant.{UploadGrant}
use Rattle.iol_core.specs.declared.port.Work.{Work}
use Rattle.iol_core.specs.declared.ticket.TicketState.{TicketState}
use Rattle.iol_core.specs.declared.ticket.TicketState.TheVariants as ticket
use Rattle.iol_core.specs.declared.upload.PermitFault.{PermitFault}
use Rattle.iol_transfer.specs.Property.{PropertyValue, property_of}
use Rattle.iol_link.specs.Page.{PageValue, page_of}
use Rattle.iol_link.specs.Validation.{ident_fault}
use Rattle.iol_link.specs.declared.validation.IdentFault.{IdentFault}
use Rattle.iol_link.specs.declared.faults.IsduFault.{IsduFault}
use Rattle.iol_link.specs.declared.messages.Answer.{Answer}
use Rattle.iol_link.specs.declared.messages.Answer.TheVariants as answer
use Rattle.iol_transfer.specs.Download.{Sender}
use Rattle.iol_transfer.specs.Machine.{Machine, Outcome, More, Whole, Fault, step}
use Rattle.iol_transfer.specs.Upload.{number_of}
use Rattle.iol_transfer.specs.declared.fault.TransferFault.TheVariants as transfer
use Rattle.iol_transfer.specs.declared.repeats.TheConstants.{MOST_REQUESTS}
use Rattle.iol_port.specs.Answers.{failed, again, state_read, checksum_read, upload_ended, uploaded, upload_answered, Sent, GoesOn, Done}
use Rattle.iol_port.specs.Answers.{Ends, sent, downloaded, download_answered}
use Rattle.iol_port.specs.Decision.{decide}
use Rattle.iol_port.specs.Faults.{read_fault, write_fault}
use Rattle.iol_port.specs.Heard.{moved, started, page_heard, settled_with, found_by, judged, resumed, is_under, decided, attended}
use Rattle.iol_port.specs.Heard.{upload_begun, download_begun, ticket_told}
use Rattle.iol_port.specs.Stage.{Stage, PortValue, Next, To, Start, Settled, Paging, Attending, BeginningUpload, BeginningDownload}
use Rattle.iol_port.specs.Stage.{Exchanging, Uploading, Filing, Storing, Downloading, Breaking, Returning}
use Rattle.iol_port.specs.Status.{status_of, status_at_rest, status_paging, status_attending, status_exchanging}
use Rattle.iol_port.specs.Telling.{status_told}
use Rattle.iol_port.specs.declared.decision.Decision.{Decision}
use Rattle.iol_port.specs.declared.decision.Decision.TheVariants as decision
use Rattle.iol_port.specs.declared.fault.PortFault.TheVariants as fault
use Rattle.iol_port.specs.declared.stage.AttendFor.{AttendFor}
use Rattle.iol_port.specs.declared.stage.AttendFor.TheVariants as attend
use Rattle.iol_port.specs.declared.stage.ExchangeFor.{ExchangeFor}
use Rattle.iol_port.specs.declared.stage.ExchangeFor.TheVariants as exchange
use Rattle.iol_port.specs.declared.stage.FoundDevice.{FoundDevice}
use Rattle.iol_port.specs.declared.stage.Held.TheVariants as held
use Rattle.iol_port.specs.declared.stage.PageFor.{PageFor}
use Rattle.iol_port.specs.declared.stage.PageFor.TheVariants as page_for
use Rattle.iol_port.specs.declared.stage.Rest.{Rest}
use Rattle.iol_port.specs.declared.stage.Rest.TheVariants as rest
use Rattle.iol_port.specs.declared.status.PortStatus.{PortStatus}
use Rattle.iol_port.specs.declared.status.PortStatus.TheVariants as status
use Rattle.iol_core.specs.Events.{Event, Page, Attended, Changed}
use Rattle.iol_core.specs.Statuses as shows
use Rattle.iol_headline.proofs.Going.{StatusTold, nil_one, status_is}
use Rattle.iol_headline.proofs.Fitting.{AreQuiet, Fits, PagingStands, AttendingStands, ExchangingStands, Stands, last_more, page_more}
use Rattle.iol_headline.proofs.Fitting.{judged_more}
use Rattle.iol_headline.specs.Conversations.{HasPage}
use Rattle.iol_headline.specs.Settled.{WasToldLast, IsJudged, SettlesBy}

-- a status that is reported holds of the events before it
abbrev pub SettlesTold : ℕ → List Event → List Event → Type 0
SettlesTold port events told = (now : shows.Status) → told ≡ Changed port now ∷ [] → SettlesBy port events now

-- whatever is reported of the status after these events
abbrev pub Rests : ℕ → List Event → PortStatus → Stage → Type 0
Rests port events was stage =
    (told : List Event) → StatusTold port was (status_of stage) told → Stands port (events ++ told) stage × SettlesTold port events told

abbrev pub NextRests : ℕ → List Event → PortStatus → Next → Type 0
NextRests port events was (To stage) = Rests port events was stage
NextRests port events was (Start work) = WasToldLast port (work_told work) events

module _ (port : ℕ) (events : List Event) where
  -- a status that is reported leaves the last work and the last page
  told_quiet : (was now : PortStatus) (told : List Event) → AreQuiet (Changed port (status_told now) ∷ []) → StatusTold port was now told
      → AreQuiet told
  told_quiet was now told quiet (inl none) = subst AreQuiet (sym none.0) (tt, tt)
  told_quiet was now told quiet (inr other) = subst AreQuiet (sym other.0) quiet

  -- the status that is reported fits
  pub settles_told : (was now : PortStatus) (told : List Event) → SettlesBy port events (status_told now) → StatusTold port was now told
      → SettlesTold port events told
  settles_told was now told holds (inl none) = λ other one. absurd (nil_one _ (sym none.0 ∙ one))
  settles_told was now told holds (inr changed) =
      λ other one. subst (SettlesBy port events) (status_is port _ _ (sym changed.0 ∙ one)) holds

  -- the status stays
  pub stay : (stage : Stage) → Stands port events stage → Rests port events (status_of stage) stage
  stay stage is told (inl none) = (
    subst (λ (es : List Event). Stands port es stage) (sym (ap (λ (ts : List Event). events ++ ts) none.0 ∙ append-nil events)) is,
    (λ other one. absurd (nil_one _ (sym none.0 ∙ one))),
  )
  stay stage is told (inr other) = absurd (other.1 refl)

  -- the port settles
  pub rests : (was : PortStatus) (own : Rest) → SettlesBy port events (status_told (status_at_rest own))
      → Rests port events was (Settled own)
  rests was own holds told shown = (tt, settles_told was (status_at_rest own) told holds shown)

  -- a transfer begins, or its set is stored
  passes : (was now : PortStatus) → AreQuiet (Changed port (status_told now) ∷ []) → SettlesBy port events (status_told now)
      → IsJudged port None events
      → (told : List Event) → StatusTold port was now told → IsJudged port None (events ++ told) × SettlesTold port events told
  passes was now quiet holds is told shown = (
    judged_more port None events told is (told_quiet was now told quiet shown),
    settles_told was now told holds shown,
  )

  -- the machine starts
  start_rests : (was : PortStatus) (value : PortValue) (work : Work) → WasToldLast port (work_told work) events
      → Rests port events was (started value work).stage
  start_rests was value work last = by (is_manual work.config.mode) refl
    where
      by : (test : Bool) → is_manual work.config.mode ≡ test
          → Rests port events was (if test then Paging (page_for.Identifying work) else Settled rest.Off)
      by true manual = λ told shown. (
        (last_more port (work_told work) events told last (told_quiet was status.Starting told ((tt, tt), tt) shown).0, manual),
        settles_told was status.Starting told tt shown,
      )
      by false manual = rests was rest.Off (record { work = work_told work; last = last; manual = manual })

  -- the machine continues, or starts
  pub moved_rests : (was : PortStatus) (value : PortValue) (next : Next) → NextRests port events was next
      → Rests port events was (moved value next).stage
  moved_rests was value (To stage) is = is
  moved_rests was value (Start work) last = start_rests was value work last

  -- a request is sent again, or has failed
  again_rests : (left : ℕ) (next : ExchangeFor) → ExchangingStands port events next
      → Rests port events (status_exchanging next) (again left next)
  again_rests left next is = by (nat_lt 1 left)
    where
      by : (test : Bool) → Rests port events (status_exchanging next)
          (if test then Exchanging next else failed (fault.Transfer transfer.Busy))
      by true = stay (Exchanging next) is
      by false = rests (status_exchanging next) (rest.Failed (fault.Transfer transfer.Busy)) tt

  -- answers to a read of State_Property and to one of Parameter_Checksum
  pub state_rests : (found : FoundDevice) (left : ℕ) (heard : Result Answer IsduFault) → Fits port found events
      → Rests port events status.Starting (state_read found left heard)
  state_rests found left (Ok (answer.ReadOk values)) is = by (length values.items == 1)
    where
      by : (test : Bool) → Rests port events status.Starting
          (if test then Exchanging (exchange.ReadingChecksum found (property_of (slice_index values.items 0)) MOST_REQUESTS)
          else failed (fault.Transfer transfer.Unexpected))
      by true = stay (Exchanging (exchange.ReadingChecksum found (property_of (slice_index values.items 0)) MOST_REQUESTS)) is
      by false = rests status.Starting (rest.Failed (fault.Transfer transfer.Unexpected)) tt
  state_rests found left (Ok answer.Busy) is = again_rests left (exchange.ReadingState found (left - 1)) is
  state_rests found left other is = rests status.Starting (rest.Failed (read_fault other)) tt

  pub checksum_rests : (found : FoundDevice) (property : PropertyValue) (left : ℕ) (heard : Result Answer IsduFault)
      → Fits port found events
      → Rests port events status.Starting (checksum_read found property left heard)
  checksum_rests found property left (Ok (answer.ReadOk values)) is = by (length values.items == 4)
    where
      by : (test : Bool) → Rests port events status.Starting
          (if test then Attending (attend.Confirming found property (number_of values.items))
          else failed (fault.Transfer transfer.Unexpected))
      by true = stay (Attending (attend.Confirming found property (number_of values.items))) is
      by false = rests status.Starting (rest.Failed (fault.Transfer transfer.Unexpected)) tt
  checksum_rests found property left (Ok answer.Busy) is = again_rests left (exchange.ReadingChecksum found property (left - 1)) is
  checksum_rests found property left other is = rests status.Starting (rest.Failed (read_fault other)) tt

  -- the answer to DS_UploadEnd
  pub ended_rests : (page : PageValue) (left : ℕ) (heard : Result Answer IsduFault) → IsJudged port None events
      → Rests port events status.Storing (upload_ended page left heard)
  ended_rests page left (Ok answer.WriteOk) is = rests status.Storing (rest.Ready page) is
  ended_rests page left (Ok answer.Busy) is = again_rests left (exchange.EndingUpload page (left - 1)) is
  ended_rests page left other is = rests status.Storing (rest.Failed (write_fault other)) tt

  -- the core gives a permit, or refuses it
  pub upload_rests : (page : PageValue) (begins : Result UploadGrant PermitFault) → IsJudged port None events
      → Rests port events status.Starting (upload_begun page begins)
  upload_rests page (Ok grant) is = passes status.Starting status.Uploading ((tt, tt), tt) tt is
  upload_rests page (Err why) is = rests status.Starting (rest.Failed (fault.Permit why)) tt

  pub download_rests : (page : PageValue) (begins : Result DownloadBegun DownloadFault) → IsJudged port None events
      → Rests port events status.Starting (download_begun page begins)
  download_rests page (Ok begins) is = passes status.Starting status.Downloading ((tt, tt), tt) tt is
  download_rests page (Err why) is = rests status.Starting (rest.Failed (fault.Download why)) tt

  -- the set is stored
  pub stored_rests : (number : ℕ) (page : PageValue) → IsJudged port None events → Rests port events status.Uploading (Storing number page)
  stored_rests number page is = passes status.Uploading status.Storing ((tt, tt), tt) tt is

  -- the answer to a request of an upload
  pub uploaded_rests : (grant : UploadGrant) (page : PageValue) (upload : Machine) (heard : Result Answer IsduFault)
      → IsJudged port None events
      → Rests port events status.Uploading (upload_answered grant page upload heard)
  uploaded_rests grant page upload (Err why) is = stay (Breaking (held.Upload grant) (fault.Isdu why)) tt
  uploaded_rests grant page upload (Ok said) is = by (step upload said)
    where
      by : (outcome : Outcome) → Rests port events status.Uploading (uploaded grant page outcome)
      by (More next) = stay (Uploading grant page next) is
      by (Whole set) = stay (Filing grant page set) is
      by (Fault why) = stay (Breaking (held.Upload grant) (fault.Transfer why)) tt

  -- the core says whether the set is durable
  pub ticket_rests : (number : ℕ) (page : PageValue) (state : TicketState) → IsJudged port None events
      → Rests port events status.Storing (ticket_told number page state)
  ticket_rests number page ticket.Waiting is = stay (Storing number page) is
  ticket_rests number page ticket.Durable is = stay (Exchanging (exchange.EndingUpload page MOST_REQUESTS)) is
  ticket_rests number page ticket.Unsure is = stay (Exchanging (exchange.Stopping true)) tt

  -- the answer to a request of a download
  pub sent_rests : (permit : ℕ) (page : PageValue) (download : Sender) (heard : Result Answer IsduFault) → IsJudged port None events
      → Rests port events status.Downloading (download_answered permit page download heard)
  sent_rests permit page download (Err why) is = stay (Breaking (held.Download permit) (fault.Isdu why)) tt
  sent_rests permit page download (Ok said) is = by (sent download said)
    where
      by : (now : Sent) → Rests port events status.Downloading (downloaded permit page now)
      by (GoesOn next) = stay (Downloading permit page next) is
      by Done = stay (Returning (held.Download permit) (rest.Ready page)) is
      by (Ends why) = stay (Breaking (held.Download permit) (fault.Transfer why)) tt

  -- ---- pages

  -- the page that was just read
  page_shown : (connection : ℕ) (octets : List ℕ) → HasPage port connection (page_of octets) (events ++ Page port connection octets ∷ [])
  page_shown connection octets = record { before = events; octets = octets; since = []; split = refl; page_is = refl; connected = tt }

module _ (port : ℕ) (events : List Event) (connection on : ℕ) (octets : List ℕ) where
  abbrev paged : List Event
  paged = events ++ Page port connection octets ∷ []

  -- the device is the one that the port wants
  found_rests : (work : Work) → WasToldLast port (work_told work) paged → is_manual work.config.mode ≡ true
      → ident_fault work.config (page_of octets) ≡ None
      → Rests port paged status.Starting (found_by work on (page_of octets))
  found_rests work last manual wanted = by (restores work.config.validation)
    where
      by : (test : Bool) → Rests port paged status.Starting
          (if test then Exchanging (exchange.ReadingState (record { work = work; page = page_of octets; connection = on }) MOST_REQUESTS)
          else Settled (rest.Ready (page_of octets)))
      by true = stay port paged
          (Exchanging (exchange.ReadingState (record { work = work; page = page_of octets; connection = on }) MOST_REQUESTS)) (record {
            connection = connection;
            last = last;
            manual = manual;
            shown = page_shown port events connection octets;
            wanted = wanted;
          })
      by false = rests port paged status.Starting (rest.Ready (page_of octets)) (record {
        work = work_told work;
        connection = connection;
        page = page_of octets;
        last = last;
        manual = manual;
        shown = page_shown port events connection octets;
        judged = wanted;
      })

  -- its page is judged
  judged_rests : (work : Work) (why : Option IdentFault) → WasToldLast port (work_told work) paged → is_manual work.config.mode ≡ true
      → ident_fault work.config (page_of octets) ≡ why
      → Rests port paged status.Starting (judged work on (page_of octets) why)
  judged_rests work None last manual is = found_rests work last manual is
  judged_rests work (Some why) last manual is = rests port paged status.Starting (rest.Mismatch why (page_of octets)) (record {
    work = work_told work;
    connection = connection;
    page = page_of octets;
    last = last;
    manual = manual;
    shown = page_shown port events connection octets;
    judged = is;
  })

  -- the page of the device
  pub page_rests : (what : PageFor) → PagingStands port events what
      → NextRests port paged (status_paging what) (page_heard what on (page_of octets))
  page_rests (page_for.Comparing work own) last = by (settled_with own (page_of octets))
    where
      by : (test : Bool) → NextRests port paged (status_at_rest own) (if test then To (Settled own) else Start work)
      by true = stay port paged (Settled own) tt
      by false = last_more port (work_told work) events (Page port connection octets ∷ []) last (tt, tt)
  page_rests (page_for.Identifying work) is =
      judged_rests work (ident_fault work.config (page_of octets))
      (last_more port (work_told work) events (Page port connection octets ∷ []) is.0 (tt, tt)) is.1 refl

-- ---- what the core says

-- a device that was found under one configuration is still under it at the same revision
abbrev pub KeepsConfig : AttendFor → Work → Type 0
KeepsConfig (attend.Confirming found property checksum) work = found.work.revision ≡ work.revision → found.work.config ≡ work.config
KeepsConfig _ work = Unit {0}

module _ (port : ℕ) (events : List Event) (work : Work) where
  abbrev said : List Event
  said = events ++ Attended port (work_told work) ∷ []

  -- the work that was just reported
  last_said : WasToldLast port (work_told work) said
  last_said = record { older = events; since = []; split = refl; unsettled = tt }

  -- a settled port is woken
  resumed_rests : (own : Rest) → NextRests port said (status_at_rest own) (resumed own work)
  resumed_rests rest.Off = stay port said (Settled rest.Off) tt
  resumed_rests rest.Lost = last_said
  resumed_rests (rest.Failed why) = last_said
  resumed_rests own = stay port said (Paging (page_for.Comparing work own)) last_said

  -- each decision
  decided_rests : (found : FoundDevice) (checksum : ℕ) (now : Decision) → IsJudged port None said
      → Rests port said status.Starting (decided found checksum now)
  decided_rests found checksum decision.Ready is = rests port said status.Starting (rest.Ready found.page) is
  decided_rests found checksum decision.ReadyLocked is = rests port said status.Starting (rest.ReadyLocked found.page) is
  decided_rests found checksum decision.ReadyEmpty is = rests port said status.Starting (rest.ReadyEmpty found.page) is
  decided_rests found checksum decision.Upload is = stay port said (BeginningUpload found) is
  decided_rests found checksum decision.Download is = stay port said (BeginningDownload found checksum) is

  -- a device that was found fits the work that is reported now
  still_fits : (found : FoundDevice) → Fits port found events → found.work.config ≡ work.config → IsJudged port None said
  still_fits found is same = record {
    work = work_told work;
    connection = is.connection;
    page = found.page;
    last = last_said;
    manual = subst (λ (c : PortConfig). is_manual c.mode ≡ true) same is.manual;
    shown = page_more port is.connection found.page events (Attended port (work_told work) ∷ []) is.shown tt;
    judged = subst (λ (c : PortConfig). ident_fault c found.page ≡ None) same is.wanted;
  }

  -- what the core says that the port is to work with
  pub attended_rests : (started : Option ℕ) (requested : Bool) (what : AttendFor) → AttendingStands port events what → KeepsConfig what work
      → NextRests port said (status_attending what) (attended started requested what (Some work))
  attended_rests started requested (attend.Waking own) is keeps = by (is_under started work.revision && not requested)
    where
      by : (test : Bool) → NextRests port said (status_at_rest own) (if test then resumed own work else Start work)
      by true = resumed_rests own
      by false = last_said
  attended_rests started requested (attend.Confirming found property checksum) is keeps = by (found.work.revision == work.revision) refl
    where
      by : (test : Bool) → (found.work.revision == work.revision) ≡ test
          → NextRests port said status.Starting
          (if test then To (decided found checksum (decide work.config.validation property.state property.flag checksum work.checksum))
          else Start work)
      by true same = decided_rests found checksum (decide work.config.validation property.state property.flag checksum work.checksum)
          (still_fits found is (keeps (grind (arith, nat_tests, same))))
      by false same = last_said
  attended_rests started requested attend.Restarting is keeps = last_said
