-- A port acts: the events since its last work.
use Rattle.std.proofs.Common.{◌≡◌, inl, inr, refl, ℕ, Bool, false, List, [], ◌∷◌, ◌++◌, sym, ap, ◌∙◌, subst, option_map}
use Rattle.std.specs.Prelude.{Option, Some, None, Result, Ok, Err}
use Rattle.iol_types.specs.DataSet.{SetValue}
use Rattle.iol_types.specs.State.{State, Port, port_numbered}
use Rattle.iol_core.specs.Core.{CoreView, live}
use Rattle.iol_core.specs.Downloads.{durable_set}
use Rattle.iol_core.specs.Ports.{work_of}
use Rattle.iol_core.specs.Telling.{work_told}
use Rattle.iol_core.specs.Uploads.{store_of}
use Rattle.iol_core.specs.declared.permit.UploadGrant.{UploadGrant}
use Rattle.iol_core.specs.declared.port.Work.{Work}
use Rattle.iol_core.specs.declared.upload.FinishFault.{FinishFault}
use Rattle.iol_core.specs.declared.upload.FinishFault.TheVariants as finish
use Rattle.iol_link.specs.Page.{PageValue, page_of}
use Rattle.iol_link.specs.Reading.{answer_of}
use Rattle.iol_link.specs.declared.faults.IsduFault.{IsduFault}
use Rattle.iol_link.specs.declared.messages.Answer.{Answer}
use Rattle.iol_link.specs.Link.{LinkCall, LinkAnswer}
use Rattle.iol_transfer.specs.declared.fault.TransferFault.TheVariants as transfer
use Rattle.iol_port.proofs.Keeping.{IsAtHand}
use Rattle.iol_port.specs.Answers.{RunsOut}
use Rattle.iol_port.specs.Heard.{IsFed, fed, at_stage, page_heard, attended, upload_finished}
use Rattle.iol_port.specs.History.{ComesOf}
use Rattle.iol_port.specs.Stage.{Stage, Settled, Paging, Attending, BeginningUpload, BeginningDownload, Exchanging, Uploading, Filing}
use Rattle.iol_port.specs.Stage.{machine_at, Filed, Storing, Downloading, Breaking, Returning, Returned, PortValue}
use Rattle.iol_port.specs.Status.{status_of}
use Rattle.iol_port.specs.Wanted.{wanted, after_action}
use Rattle.iol_port.specs.declared.action.Input.{Input}
use Rattle.iol_port.specs.declared.action.Input.TheVariants as input
use Rattle.iol_port.specs.declared.call.Reply.TheVariants as reply
use Rattle.iol_port.specs.declared.fault.PortFault.TheVariants as fault
use Rattle.iol_port.specs.declared.fault.StoringFault.TheVariants as unstored
use Rattle.iol_port.specs.declared.stage.AttendFor.{AttendFor}
use Rattle.iol_port.specs.declared.stage.AttendFor.TheVariants as attend
use Rattle.iol_port.specs.declared.stage.ExchangeFor.TheVariants as exchange
use Rattle.iol_port.specs.declared.stage.Held.TheVariants as held
use Rattle.iol_port.specs.declared.stage.Rest.TheVariants as rest
use Rattle.iol_port.specs.declared.status.PortStatus.TheVariants as status
use Rattle.iol_engine.specs.PortRuns.{IsCoreAfter}
use Rattle.iol_engine.specs.PortSteps.{Hears, filed_told}
use Rattle.iol_core.specs.Events as trace
use Rattle.iol_core.specs.Events.{Event, Page, Attended, Accepted, Stamp, stamped}
use Rattle.iol_core.specs.Own.{own, own_in}
use Rattle.iol_headline.proofs.Going.{IsSaid, is_said, holds_since}
use Rattle.iol_headline.proofs.Fitting.{Stands, judged_more, fits_more}
use Rattle.iol_headline.proofs.Settling.{Rests, KeepsConfig, stay, rests, settles_told, moved_rests, page_rests, attended_rests}
use Rattle.iol_headline.proofs.Settling.{state_rests, checksum_rests, ended_rests, upload_rests, download_rests, stored_rests}
use Rattle.iol_headline.proofs.Settling.{uploaded_rests, ticket_rests, sent_rests}
use Rattle.iol_headline.proofs.Stages.{Told, AttendingTold, IsWhole}
use Rattle.iol_headline.proofs.Talks.{own_one, own_more, own_same, at_own}
use Rattle.iol_headline.specs.Settled.{IsJudged}

-- a port that is there has work
none_some : (core : CoreView) (port : ℕ) (p : Port) → port_numbered (live core) port ≡ Some p
    → (let none : Option Work = None in none ≡ option_map (λ q. work_of q (durable_set core port)) (port_numbered (live core) port)) → ⊥
none_some core port p there none =
    absurd (apart (none ∙ ap (λ (found : Option Port). option_map (λ q. work_of q (durable_set core port)) found) there))
  where
    apart : (let nothing : Option Work = None in nothing ≡ Some (work_of p (durable_set core port))) → ⊥
    apart same = cc

module _ {L : Type 0} (number : L → ℕ) (steps : L → LinkCall → LinkAnswer → L → Type 0) (first : ℕ) (start : State) (port : ℕ)
    (events : List Stamp) (clock : ℕ)
    (link last : L) (old new : CoreView) (core : IsCoreAfter first start events old) (there : (p : Port)
    × (port_numbered (live old) port ≡ Some p)) where
  abbrev Leads : List Event → Stage → Stage → Type 0
  Leads called was stage = Rests port (own port (events ++ stamped clock called)) (status_of was) stage

  -- nothing was reported
  by_none : (called : List Event) (was stage : Stage) → called ≡ [] → Rests port (own port events) (status_of was) stage
      → Leads called was stage
  by_none called was stage none goes =
      subst (λ (es : List Event). Leads es was stage) (sym none)
      (subst (λ (es : List Event). Rests port es (status_of was) stage) (sym (own_same port events [] refl)) goes)

  -- one event of the port's own was reported
  by_own : (called : List Event) (e : Event) (was stage : Stage) → called ≡ e ∷ [] → own_in port e ≡ e ∷ []
      → Rests port (own port events ++ e ∷ []) (status_of was) stage
      → Leads called was stage
  by_own called e was stage one mine goes =
      subst (λ (es : List Event). Leads es was stage) (sym one)
      (subst (λ (es : List Event). Rests port es (status_of was) stage)
      (sym (own_more port events (stamped clock (e ∷ [])) (e ∷ []) (own_one port clock e mine))) goes)

  -- an exchange with the device
  by_talk : (called : List Event) (octets back : List ℕ) (was stage : Stage) → called ≡ trace.Exchange port (number link) octets back ∷ []
      → Rests port (own port events ++ trace.Exchange port (number link) octets back ∷ []) (status_of was) stage → Leads called was stage
  by_talk called octets back was stage one goes =
      by_own called (trace.Exchange port (number link) octets back) was stage one
      (at_own port (trace.Exchange port (number link) octets back)) goes

  abbrev behind : List Event → List Event
  behind called = own port (events ++ stamped clock called)

  -- the configuration that the device was found under counts still
  keeps : (what : AttendFor) (work : Work) → AttendingTold first start port (number link) events what
      → IsSaid first start port (number link) work old events → KeepsConfig what work
  keeps (attend.Waking at_rest) work is said = tt
  keeps (attend.Confirming found property checksum) work is said = λ same.
      let earlier = is.shows.said in
      let held = holds_since first start port (number link)
      events earlier.upto earlier.more earlier.kept said.kept earlier.split earlier.there said.there in
      let later = ap (λ (w : Work). w.config) said.work_is in
      let revision = ap (λ (w : Work). w.revision) said.work_is in
      earlier.config ∙ (sym (held.config (sym revision ∙ (sym same ∙ earlier.revision))) ∙ sym later)
  keeps attend.Restarting work is said = tt

  -- the core takes the set, or refuses it
  filed_rests : (called : List Event) (grant : UploadGrant) (page : PageValue) (set : SetValue) (finished : Result ℕ FinishFault)
      → IsWhole first start port (number link) grant set events
      → IsJudged port None (own port events) → called ≡ filed_told (Some (store_of grant set)) finished
      → Leads called (Filing grant page set) (upload_finished page finished)
  filed_rests called grant page set (Ok ticket) is judged told =
      by_own called (Accepted ticket (store_of grant set)) (Filing grant page set) (Storing ticket page) told
      (subst (λ (p : ℕ). own_in p (Accepted ticket (store_of grant set)) ≡ Accepted ticket (store_of grant set) ∷ []) is.uploads.port_is
      (at_own grant.port (Accepted ticket (store_of grant set))))
      (stored_rests port _ ticket page (judged_more port None (own port events) (Accepted ticket (store_of grant set) ∷ []) judged
      ((tt, tt), tt)))
  filed_rests called grant page set (Err finish.Stopped) is judged told =
      by_none called (Filing grant page set) (Exchanging (exchange.Stopping false)) told
      (stay port (own port events) (Exchanging (exchange.Stopping false)) tt)
  filed_rests called grant page set (Err finish.ConfigChanged) is judged told =
      by_none called (Filing grant page set) (Exchanging exchange.Yielding) told
      (stay port (own port events) (Exchanging exchange.Yielding) tt)
  filed_rests called grant page set (Err (finish.QueueFull permit back)) is judged told =
      by_none called (Filing grant page set) (Filing permit page back.value) told
      (stay port (own port events) (Filing permit page back.value) judged)
  filed_rests called grant page set (Err (finish.Exhausted permit back)) is judged told =
      by_none called (Filing grant page set) (Breaking (held.Upload permit) (fault.Storing unstored.Exhausted)) told
      (stay port (own port events) (Breaking (held.Upload permit) (fault.Storing unstored.Exhausted)) tt)
  filed_rests called grant page set (Err (finish.Memory permit back)) is judged told =
      by_none called (Filing grant page set) (Breaking (held.Upload permit) (fault.Transfer transfer.Memory)) told
      (stay port (own port events) (Breaking (held.Upload permit) (fault.Transfer transfer.Memory)) tt)

  -- what is reported at a stage
  abbrev IsTold : Stage → Type 0
  IsTold stage = Told first start port (number link) events stage

  abbrev StandsAt : Stage → Type 0
  StandsAt stage = Stands port (own port events) stage

  -- a machine of the port
  abbrev machine : Option ℕ → Bool → Stage → PortValue
  machine started requested stage = machine_at port started requested stage

  abbrev After : Option ℕ → Bool → Stage → Input → Stage
  After started requested stage heard = (fed (machine started requested (after_action stage)) heard).stage

  -- the table: each stage, and each thing that it may hear
  acts_rest : (started : Option ℕ) (requested : Bool) (stage : Stage) (heard : Input) (called : List Event) → IsTold stage
      → StandsAt stage → IsAtHand stage → ComesOf (wanted port stage) heard
      → Hears number steps port (wanted port stage) heard link last old new called
      → Leads called stage (After started requested stage heard)
  acts_rest started requested (Settled at_rest) heard called is stands hand comes hears = absurd hears
  acts_rest started requested (Paging what) (input.Page connection octets) called is stands hand comes hears =
      by_own called (Page port (number link) octets) (Paging what) _ hears.0.3 (at_own port (Page port (number link) octets))
      (moved_rests port _ (status_of (Paging what)) (machine started requested (Paging what)) (page_heard what connection (page_of octets))
      (page_rests port (own port events) (number link) connection octets what stands))
  acts_rest started requested (Paging what) input.Lost called is stands hand comes hears =
      rests port (behind called) (status_of (Paging what)) rest.Lost tt
  acts_rest started requested (Paging what) heard called is stands hand comes hears = absurd comes
  acts_rest started requested (Attending what) (input.Reply (reply.Attended None)) called is stands hand comes hears =
      absurd (none_some old port there.0 there.1 hears.0.0.0)
  acts_rest started requested (Attending what) (input.Reply (reply.Attended (Some work))) called is stands hand comes hears =
      by_own called (Attended port (work_told work)) (Attending what) _ hears.0.1 (at_own port (Attended port (work_told work)))
      (moved_rests port _ (status_of (Attending what)) (machine started requested (Attending what))
      (attended started requested what (Some work))
      (attended_rests port (own port events) work started requested what stands
      (keeps what work is (is_said first start port (number link) events old work core hears.0.0.0))))
  acts_rest started requested (Attending what) heard called is stands hand comes hears = absurd comes
  acts_rest started requested (BeginningUpload found) (input.Reply (reply.BegunUpload begins)) called is stands hand comes hears =
      by_none called (BeginningUpload found) _ hears.0.1 (upload_rests port (own port events) found.page begins stands)
  acts_rest started requested (BeginningUpload found) heard called is stands hand comes hears = absurd comes
  acts_rest started requested (BeginningDownload found checksum)
      (input.Reply (reply.BegunDownload begins)) called is stands hand comes hears =
      by_none called (BeginningDownload found checksum) _ hears.0.1 (download_rests port (own port events) found.page begins stands)
  acts_rest started requested (BeginningDownload found checksum) heard called is stands hand comes hears = absurd comes
  acts_rest started requested (Exchanging (exchange.ReadingState found left)) (input.Octets octets) called is stands hand comes hears =
      by_talk called hears.0.0 octets.items (Exchanging (exchange.ReadingState found left)) _ hears.0.2.2
      (state_rests port _ found left (answer_of octets.items)
      (fits_more port found (own port events) (trace.Exchange port (number link) hears.0.0 octets.items ∷ []) stands ((tt, tt), tt)))
  acts_rest started requested (Exchanging (exchange.ReadingChecksum found property left))
      (input.Octets octets) called is stands hand comes hears =
      by_talk called hears.0.0 octets.items (Exchanging (exchange.ReadingChecksum found property left)) _ hears.0.2.2
      (checksum_rests port _ found property left (answer_of octets.items)
      (fits_more port found (own port events) (trace.Exchange port (number link) hears.0.0 octets.items ∷ []) stands ((tt, tt), tt)))
  acts_rest started requested (Exchanging (exchange.EndingUpload page left)) (input.Octets octets) called is stands hand comes hears =
      by_talk called hears.0.0 octets.items (Exchanging (exchange.EndingUpload page left)) _ hears.0.2.2
      (ended_rests port _ page left (answer_of octets.items)
      (judged_more port None (own port events) (trace.Exchange port (number link) hears.0.0 octets.items ∷ []) stands ((tt, tt), tt)))
  acts_rest started requested (Exchanging (exchange.Stopping storing)) (input.Octets octets) called is stands hand comes hears =
      rests port (behind called) (status_of (Exchanging (exchange.Stopping storing))) (rest.Failed (fault.Storing unstored.Stopped)) tt
  acts_rest started requested (Exchanging exchange.Yielding) (input.Octets octets) called is stands hand comes hears =
      stay port (behind called) (Attending attend.Restarting) tt
  acts_rest started requested (Exchanging what) input.Lost called is stands hand comes hears =
      rests port (behind called) (status_of (Exchanging what)) rest.Lost tt
  acts_rest started requested (Exchanging what) heard called is stands hand comes hears = absurd comes
  acts_rest started requested (Uploading grant page upload) (input.Octets octets) called is stands hand comes hears =
      by_talk called hears.0.0 octets.items (Uploading grant page upload) _ hears.0.2.2
      (uploaded_rests port _ grant page upload (answer_of octets.items)
      (judged_more port None (own port events) (trace.Exchange port (number link) hears.0.0 octets.items ∷ []) stands ((tt, tt), tt)))
  acts_rest started requested (Uploading grant page upload) input.Lost called is stands hand comes hears =
      λ told shown. (tt, settles_told port (behind called) status.Uploading status.Lost told tt shown)
  acts_rest started requested (Uploading grant page upload) heard called is stands hand comes hears = absurd comes
  acts_rest started requested (Filing grant page set) (input.Reply (reply.FinishedUpload finished)) called is stands hand comes hears =
      filed_rests called grant page set finished is stands hears.0.1
  acts_rest started requested (Filing grant page set) heard called is stands hand comes hears = absurd comes
  acts_rest started requested (Filed page) heard called is stands hand comes hears = absurd cc
  acts_rest started requested (Storing ticket page) (input.Reply (reply.Ticket state)) called is stands hand comes hears =
      by_none called (Storing ticket page) _ hears.0.1 (ticket_rests port (own port events) ticket page state stands)
  acts_rest started requested (Storing ticket page) heard called is stands hand comes hears = absurd comes
  acts_rest started requested (Downloading permit page download) (input.Octets octets) called is stands hand comes hears =
      by_talk called hears.0.0 octets.items (Downloading permit page download) _ hears.0.2.2
      (sent_rests port _ permit page download (answer_of octets.items)
      (judged_more port None (own port events) (trace.Exchange port (number link) hears.0.0 octets.items ∷ []) stands ((tt, tt), tt)))
  acts_rest started requested (Downloading permit page download) input.Lost called is stands hand comes hears =
      λ told shown. (tt, settles_told port (behind called) status.Downloading status.Lost told tt shown)
  acts_rest started requested (Downloading permit page download) heard called is stands hand comes hears = absurd comes
  acts_rest started requested (Breaking holder why) (input.Octets octets) called is stands hand comes hears =
      stay port (behind called) (Returning holder (rest.Failed why)) tt
  acts_rest started requested (Breaking holder why) input.Lost called is stands hand comes hears =
      λ told shown. (tt, settles_told port (behind called) (status_of (Breaking holder why)) status.Lost told tt shown)
  acts_rest started requested (Breaking holder why) heard called is stands hand comes hears = absurd comes
  acts_rest started requested (Returning (held.Upload permit) at_rest)
      (input.Reply reply.AbandonedUpload) called is stands hand comes hears =
      by_none called (Returning (held.Upload permit) at_rest) (Settled at_rest) hears.0.1
      (rests port _ (status_of (Returning (held.Upload permit) at_rest)) at_rest stands)
  acts_rest started requested (Returning (held.Upload permit) at_rest) heard called is stands hand comes hears = absurd comes
  acts_rest started requested (Returning (held.Download permit) at_rest)
      (input.Reply reply.EndedDownload) called is stands hand comes hears =
      by_none called (Returning (held.Download permit) at_rest) (Settled at_rest) hears.0.1
      (rests port _ (status_of (Returning (held.Download permit) at_rest)) at_rest stands)
  acts_rest started requested (Returning (held.Download permit) at_rest) heard called is stands hand comes hears = absurd comes
  acts_rest started requested (Returned transfer at_rest) heard called is stands hand comes hears = absurd cc

  -- memory runs out in an upload
  out_rests : (was : Stage) (heard : Result Answer IsduFault) (later : Stage) (called : List Event) → RunsOut (after_action was) heard later
      → Leads called was later
  out_rests (Uploading grant page upload) heard later called out =
      subst (λ (s : Stage). Leads called (Uploading grant page upload) s) (sym out.1)
      (stay port (behind called) (Breaking (held.Upload grant) (fault.Transfer transfer.Memory)) tt)
  out_rests was heard later called out = absurd out

  -- what holds of a machine after an input
  pub fed_rests : (value later : PortValue) (heard : Input) (called : List Event) → value.port ≡ port → IsTold value.stage
      → StandsAt value.stage → IsAtHand value.stage → ComesOf (wanted value.port value.stage) heard
      → Hears number steps value.port (wanted value.port value.stage) heard link last old new called
      → IsFed (at_stage value (after_action value.stage)) heard later
      → Leads called value.stage later.stage
  fed_rests value later heard called at is stands hand comes hears fed_is = by heard
      (subst (λ (p : ℕ). ComesOf (wanted p value.stage) heard) at comes)
      (subst (λ (p : ℕ). Hears number steps p (wanted p value.stage) heard link last old new called) at hears) fed_is
    where
      stage_at : (heard : Input) → (fed (at_stage value (after_action value.stage)) heard).stage
          ≡ After value.started_revision value.upload_requested value.stage heard
      stage_at heard = ap (λ (p : ℕ). (fed (machine_at p value.started_revision value.upload_requested (after_action value.stage))
          heard).stage) at

      whole : (heard : Input) → ComesOf (wanted port value.stage) heard
          → Hears number steps port (wanted port value.stage) heard link last old new called
          → later ≡ fed (at_stage value (after_action value.stage)) heard → Leads called value.stage later.stage
      whole heard comes hears same =
          let stage_is : later.stage ≡ After value.started_revision value.upload_requested value.stage heard =
          ap (λ (v : PortValue). v.stage) same ∙ stage_at heard in
          subst (λ (s : Stage). Leads called value.stage s) (sym stage_is)
          (acts_rest value.started_revision value.upload_requested value.stage heard called is stands hand comes hears)

      by : (heard : Input) → ComesOf (wanted port value.stage) heard
          → Hears number steps port (wanted port value.stage) heard link last old new called
          → IsFed (at_stage value (after_action value.stage)) heard later → Leads called value.stage later.stage
      by (input.Octets octets) comes hears (inl same) = whole (input.Octets octets) comes hears same
      by (input.Octets octets) comes hears (inr out) =
          subst (λ (s : Stage). Leads called value.stage s) (sym (ap (λ (v : PortValue). v.stage) out.2))
          (out_rests value.stage (answer_of octets.items) out.0 called out.1)
      by input.Wake comes hears same = whole input.Wake comes hears same
      by (input.Event code) comes hears same = whole (input.Event code) comes hears same
      by (input.Page connection octets) comes hears same = whole (input.Page connection octets) comes hears same
      by input.Lost comes hears same = whole input.Lost comes hears same
      by (input.Reply heard) comes hears same = whole (input.Reply heard) comes hears same
