-- A port acts: what it reports, and what holds then.
use Rattle.std.proofs.Common.{◌≡◌, inl, inr, refl, ℕ, Bool, List, [], ◌∷◌, ◌++◌, sym, ap, ◌∙◌, subst}
use Rattle.std.specs.Prelude.{Option, Some, None, Result}
use Rattle.iol_types.specs.State.{State}
use Rattle.iol_core.specs.Core.{CoreView}
use Rattle.iol_core.specs.Uploads.{store_of}
use Rattle.iol_link.specs.Page.{page_of}
use Rattle.iol_link.specs.Reading.{answer_of}
use Rattle.iol_link.specs.declared.faults.IsduFault.{IsduFault}
use Rattle.iol_link.specs.declared.messages.Answer.{Answer}
use Rattle.iol_link.specs.Link.{LinkCall, LinkAnswer}
use Rattle.iol_transfer.specs.declared.fault.TransferFault.TheVariants as transfer
use Rattle.iol_port.proofs.Keeping.{IsAtHand}
use Rattle.iol_port.specs.Answers.{RunsOut}
use Rattle.iol_port.specs.Heard.{IsFed, fed, moved, at_stage, page_heard, attended}
use Rattle.iol_port.specs.History.{ComesOf}
use Rattle.iol_port.specs.Stage.{Stage, Next, Settled, Paging, Attending, BeginningUpload, BeginningDownload, Exchanging, Uploading}
use Rattle.iol_port.specs.Stage.{machine_at, Filing, Filed, Storing, Downloading, Breaking, Returning, Returned, PortValue, IsStage}
use Rattle.iol_port.specs.Status.{status_of}
use Rattle.iol_port.specs.Wanted.{wanted, after_action}
use Rattle.iol_port.specs.declared.action.Input.{Input}
use Rattle.iol_port.specs.declared.action.Input.TheVariants as input
use Rattle.iol_port.specs.declared.call.Reply.TheVariants as reply
use Rattle.iol_port.specs.declared.stage.ExchangeFor.TheVariants as exchange
use Rattle.iol_port.specs.declared.stage.Held.TheVariants as held
use Rattle.iol_engine.specs.PortRuns.{IsCoreAfter}
use Rattle.iol_engine.specs.PortSteps.{Hears, attended_told, filed_told}
use Rattle.iol_core.specs.Events.{Event, Page, Stamp}
use Rattle.iol_headline.proofs.Going.{Goes, NextGoes, moved_goes, is_said, settles, still, plain_began}
use Rattle.iol_port.specs.declared.fault.PortFault.TheVariants as fault
use Rattle.iol_port.specs.declared.fault.StoringFault.TheVariants as unstored
use Rattle.iol_port.specs.declared.stage.AttendFor.TheVariants as attend
use Rattle.iol_port.specs.declared.stage.Rest.{Rest}
use Rattle.iol_port.specs.declared.stage.Rest.TheVariants as rest
use Rattle.iol_port.specs.declared.status.PortStatus.{PortStatus}
use Rattle.iol_port.specs.declared.status.PortStatus.TheVariants as status
use Rattle.iol_core.specs.Events.{stamped}
use Rattle.iol_headline.proofs.Reading.{page_goes, state_goes, checksum_goes, attended_goes}
use Rattle.iol_headline.proofs.Stages.{Told}
use Rattle.iol_headline.proofs.Downloading.{download_goes, sent_goes}
use Rattle.iol_headline.proofs.Uploading.{upload_goes, uploaded_goes, filed_goes, ticket_goes, ending_goes}

module _ {L : Type 0} (number : L → ℕ) (steps : L → LinkCall → LinkAnswer → L → Type 0) (first : ℕ) (start : State) (port : ℕ)
    (events : List Stamp) (clock : ℕ)
    (link last : L) (old new : CoreView) (core : IsCoreAfter first start events old) where
  abbrev Leads : List Event → Stage → Stage → Type 0
  Leads called was stage = Goes first start port (number link) events clock called (status_of was) stage

  -- what is reported at a stage
  abbrev IsTold : Stage → Type 0
  IsTold stage = Told first start port (number link) events stage

  -- a machine of the port
  abbrev machine : Option ℕ → Bool → Stage → PortValue
  machine started requested stage = machine_at port started requested stage

  -- the status stays
  stays : (called : List Event) (stage : Stage) → Told first start port (number link) (events ++ stamped clock called) stage
      → Leads called stage stage
  stays called stage is = still first start port (number link) events clock called stage is

  -- the port settles
  rests : (called : List Event) (was : PortStatus) (own : Rest) → Goes first start port (number link) events clock called was (Settled own)
  rests called was own = settles first start port (number link) events clock called was own

  -- the machine continues, or starts
  moves : (called : List Event) (was : PortStatus) (value : PortValue) (next : Next)
      → NextGoes first start port (number link) events clock called was next
      → Goes first start port (number link) events clock called was (moved value next).stage
  moves called was value next goes = moved_goes first start port (number link) events clock called was value next goes

  -- the reported events are these
  by_called : (called is : List Event) (was stage : Stage) → called ≡ is → Leads is was stage → Leads called was stage
  by_called called is was stage same goes = subst (λ (es : List Event). Leads es was stage) (sym same) goes

  -- the stage after an input
  abbrev After : Option ℕ → Bool → Stage → Input → Stage
  After started requested stage heard = (fed (machine started requested (after_action stage)) heard).stage

  -- the table: each stage, and each thing that it may hear
  acts_goes : (started : Option ℕ) (requested : Bool) (stage : Stage) (heard : Input) (called : List Event) → IsTold stage → IsAtHand stage
      → ComesOf (wanted port stage) heard → Hears number steps port (wanted port stage) heard link last old new called
      → IsStage (After started requested stage heard) → Leads called stage (After started requested stage heard)
  acts_goes started requested (Settled own) heard called is hand comes hears good = absurd hears
  acts_goes started requested (Paging what) (input.Page connection octets) called is hand comes hears good =
      subst (λ (c : ℕ). Leads called (Paging what)
      (moved (machine started requested (Paging what)) (page_heard what c (page_of octets))).stage)
      (sym hears.0.0)
      (by_called called (Page port (number link) octets ∷ []) (Paging what) _ hears.0.3
      (moves (Page port (number link) octets ∷ []) (status_of (Paging what)) (machine started requested (Paging what))
      (page_heard what (number link) (page_of octets))
      (page_goes first start port (number link) events clock what octets is)))
  acts_goes started requested (Paging what) input.Lost called is hand comes hears good = rests called (status_of (Paging what)) rest.Lost
  acts_goes started requested (Paging what) heard called is hand comes hears good = absurd comes
  acts_goes started requested (Attending what) (input.Reply (reply.Attended None)) called is hand comes hears good =
      rests called (status_of (Attending what)) rest.Off
  acts_goes started requested (Attending what) (input.Reply (reply.Attended (Some work))) called is hand comes hears good =
      by_called called (attended_told port (Some work)) (Attending what) _ hears.0.1
      (moves (attended_told port (Some work)) (status_of (Attending what)) (machine started requested (Attending what))
      (attended started requested what (Some work))
      (attended_goes first start port (number link) events clock old core started requested what work is
      (is_said first start port (number link) events old work core hears.0.0.0)))
  acts_goes started requested (Attending what) heard called is hand comes hears good = absurd comes
  acts_goes started requested (BeginningUpload found) (input.Reply (reply.BegunUpload begins)) called is hand comes hears good =
      by_called called [] (BeginningUpload found) _ hears.0.1
      (upload_goes first start port (number link) events clock found begins old new core is hears.0.0)
  acts_goes started requested (BeginningUpload found) heard called is hand comes hears good = absurd comes
  acts_goes started requested (BeginningDownload found checksum)
      (input.Reply (reply.BegunDownload begins)) called is hand comes hears good =
      by_called called [] (BeginningDownload found checksum) _ hears.0.1
      (download_goes first start port (number link) events clock found checksum begins old new core is hears.0.0 comes)
  acts_goes started requested (BeginningDownload found checksum) heard called is hand comes hears good = absurd comes
  acts_goes started requested (Exchanging (exchange.ReadingState found left)) (input.Octets octets) called is hand comes hears good =
      by_called called _ (Exchanging (exchange.ReadingState found left)) _ hears.0.2.2
      (state_goes first start port (number link) events clock found left hears.0.0 octets.items _ hears.0.1 is refl)
  acts_goes started requested (Exchanging (exchange.ReadingChecksum found property left))
      (input.Octets octets) called is hand comes hears good =
      by_called called _ (Exchanging (exchange.ReadingChecksum found property left)) _ hears.0.2.2
      (checksum_goes first start port (number link) events clock found property left hears.0.0 octets.items _ hears.0.1 is refl)
  acts_goes started requested (Exchanging (exchange.EndingUpload page left)) (input.Octets octets) called is hand comes hears good =
      by_called called _ (Exchanging (exchange.EndingUpload page left)) _ hears.0.2.2
      (ending_goes first start port (number link) events clock page left hears.0.0 octets.items _ hears.0.1 is refl)
  acts_goes started requested (Exchanging (exchange.Stopping storing)) (input.Octets octets) called is hand comes hears good =
      rests called (status_of (Exchanging (exchange.Stopping storing))) (rest.Failed (fault.Storing unstored.Stopped))
  acts_goes started requested (Exchanging exchange.Yielding) (input.Octets octets) called is hand comes hears good =
      stays called (Attending attend.Restarting) tt
  acts_goes started requested (Exchanging what) input.Lost called is hand comes hears good =
      rests called (status_of (Exchanging what)) rest.Lost
  acts_goes started requested (Exchanging what) heard called is hand comes hears good = absurd comes
  acts_goes started requested (Uploading grant page upload) (input.Octets octets) called is hand comes hears good =
      by_called called _ (Uploading grant page upload) _ hears.0.2.2
      (uploaded_goes first start port (number link) events clock grant page upload hears.0.0 octets.items _ hears.0.1 is refl good)
  acts_goes started requested (Uploading grant page upload) input.Lost called is hand comes hears good =
      λ told shown. (tt, plain_began port (events ++ stamped clock called) status.Uploading status.Lost told tt shown)
  acts_goes started requested (Uploading grant page upload) heard called is hand comes hears good = absurd comes
  acts_goes started requested (Filing grant page set) (input.Reply (reply.FinishedUpload finished)) called is hand comes hears good =
      by_called called (filed_told (Some (store_of grant set)) finished) (Filing grant page set) _ hears.0.1
      (filed_goes first start port (number link) events clock grant page set finished old new core is hears.0.0)
  acts_goes started requested (Filing grant page set) heard called is hand comes hears good = absurd comes
  acts_goes started requested (Filed page) heard called is hand comes hears good = absurd cc
  acts_goes started requested (Storing ticket page) (input.Reply (reply.Ticket state)) called is hand comes hears good =
      by_called called [] (Storing ticket page) _ hears.0.1
      (ticket_goes first start port (number link) events clock ticket page state old core is hears.0.0.0)
  acts_goes started requested (Storing ticket page) heard called is hand comes hears good = absurd comes
  acts_goes started requested (Downloading permit page download) (input.Octets octets) called is hand comes hears good =
      by_called called _ (Downloading permit page download) _ hears.0.2.2
      (sent_goes first start port (number link) events clock permit page download hears.0.0 octets.items _ hears.0.1 is refl)
  acts_goes started requested (Downloading permit page download) input.Lost called is hand comes hears good =
      λ told shown. (tt, plain_began port (events ++ stamped clock called) status.Downloading status.Lost told tt shown)
  acts_goes started requested (Downloading permit page download) heard called is hand comes hears good = absurd comes
  acts_goes started requested (Breaking holder why) (input.Octets octets) called is hand comes hears good =
      stays called (Returning holder (rest.Failed why)) tt
  acts_goes started requested (Breaking holder why) input.Lost called is hand comes hears good =
      λ told shown. (tt, plain_began port (events ++ stamped clock called) (status_of (Breaking holder why)) status.Lost told tt shown)
  acts_goes started requested (Breaking holder why) heard called is hand comes hears good = absurd comes
  acts_goes started requested (Returning (held.Upload permit) own) (input.Reply reply.AbandonedUpload) called is hand comes hears good =
      rests called (status_of (Returning (held.Upload permit) own)) own
  acts_goes started requested (Returning (held.Upload permit) own) heard called is hand comes hears good = absurd comes
  acts_goes started requested (Returning (held.Download permit) own) (input.Reply reply.EndedDownload) called is hand comes hears good =
      rests called (status_of (Returning (held.Download permit) own)) own
  acts_goes started requested (Returning (held.Download permit) own) heard called is hand comes hears good = absurd comes
  acts_goes started requested (Returned transfer own) heard called is hand comes hears good = absurd cc

  -- memory runs out in an upload
  out_goes : (was : Stage) (heard : Result Answer IsduFault) (later : Stage) (called : List Event) → RunsOut (after_action was) heard later
      → Leads called was later
  out_goes (Uploading grant page upload) heard later called out =
      subst (λ (s : Stage). Leads called (Uploading grant page upload) s) (sym out.1)
      (stays called (Breaking (held.Upload grant) (fault.Transfer transfer.Memory)) tt)
  out_goes was heard later called out = absurd out

  -- what holds of a machine after an input
  pub fed_goes : (value later : PortValue) (heard : Input) (called : List Event) → value.port ≡ port → IsTold value.stage
      → IsAtHand value.stage
      → ComesOf (wanted value.port value.stage) heard
      → Hears number steps value.port (wanted value.port value.stage) heard link last old new called
      → IsFed (at_stage value (after_action value.stage)) heard later → IsStage later.stage → Leads called value.stage later.stage
  fed_goes value later heard called at is hand comes hears fed_is good = by heard
      (subst (λ (p : ℕ). ComesOf (wanted p value.stage) heard) at comes)
      (subst (λ (p : ℕ). Hears number steps p (wanted p value.stage) heard link last old new called) at hears) fed_is
    where
      stage_at : (heard : Input) → (fed (at_stage value (after_action value.stage)) heard).stage
          ≡ After value.started_revision value.upload_requested value.stage heard
      stage_at heard = ap (λ (p : ℕ). (fed (machine_at p value.started_revision value.upload_requested (after_action value.stage))
          heard).stage) at

      whole : (heard : Input) → ComesOf (wanted port value.stage) heard
          → Hears number steps port (wanted port value.stage) heard link last old new called
          → later ≡ fed (at_stage value (after_action value.stage)) heard → Leads called value.stage later.stage
      whole heard comes hears same =
          let stage_is : later.stage ≡ After value.started_revision value.upload_requested value.stage heard =
          ap (λ (v : PortValue). v.stage) same ∙ stage_at heard in
          subst (λ (s : Stage). Leads called value.stage s) (sym stage_is)
          (acts_goes value.started_revision value.upload_requested value.stage heard called is hand comes hears
          (subst IsStage stage_is good))

      by : (heard : Input) → ComesOf (wanted port value.stage) heard
          → Hears number steps port (wanted port value.stage) heard link last old new called
          → IsFed (at_stage value (after_action value.stage)) heard later → Leads called value.stage later.stage
      by (input.Octets octets) comes hears (inl same) = whole (input.Octets octets) comes hears same
      by (input.Octets octets) comes hears (inr out) =
          subst (λ (s : Stage). Leads called value.stage s) (sym (ap (λ (v : PortValue). v.stage) out.2))
          (out_goes value.stage (answer_of octets.items) out.0 called out.1)
      by input.Wake comes hears same = whole input.Wake comes hears same
      by (input.Event code) comes hears same = whole (input.Event code) comes hears same
      by (input.Page connection octets) comes hears same = whole (input.Page connection octets) comes hears same
      by input.Lost comes hears same = whole input.Lost comes hears same
      by (input.Reply heard) comes hears same = whole (input.Reply heard) comes hears same
