-- A port downloads: what is reported.
use Rattle.std.proofs.Common.{◌≡◌, inl, inr, refl, ℕ, List, [], ◌∷◌}
use Rattle.std.proofs.Common.{◌++◌, sym, ap, ◌∙◌, subst, lit<, append_assoc, append-nil}
use Rattle.std.specs.Prelude.{Option, Some, None, IsSomeAnd, IfOk, Result, Ok, Err}
use Rattle.iol_types.specs.DataSet.{SetValue, IsSet}
use Rattle.iol_types.specs.State.{State, Stored, port_numbered}
use Rattle.iol_core.specs.Core.{CoreView}
use Rattle.iol_core.specs.Downloads.{IsBeginDownload, durable_set, stored_at}
use Rattle.iol_core.specs.declared.download.DownloadBegun.{DownloadBegun}
use Rattle.iol_core.specs.declared.download.DownloadFault.{DownloadFault}
use Rattle.iol_link.specs.Page.{PageValue}
use Rattle.iol_link.specs.Isdu.{IsShortestRequest}
use Rattle.iol_link.specs.Reading.{answer_of}
use Rattle.iol_link.specs.declared.faults.IsduFault.{IsduFault}
use Rattle.iol_link.specs.declared.messages.Answer.{Answer}
use Rattle.iol_transfer.proofs.Sending.{fed-on}
use Rattle.iol_transfer.specs.Download.{Sender, sent_by, answered_to}
use Rattle.iol_transfer.specs.declared.download.DownloadStep.TheVariants as download_step
use Rattle.iol_port.proofs.Telling.{sent_step}
use Rattle.iol_port.specs.Answers.{Sent, GoesOn, Done, Ends, sent, downloaded}
use Rattle.iol_port.specs.Answers.{download_answered}
use Rattle.iol_port.specs.Calls.{IsBegunFor}
use Rattle.iol_port.specs.declared.fault.PortFault.TheVariants as fault
use Rattle.iol_port.specs.declared.stage.Held.TheVariants as held
use Rattle.iol_port.specs.declared.stage.Rest.{Rest}
use Rattle.iol_port.specs.declared.stage.Rest.TheVariants as rest
use Rattle.iol_port.specs.Status.{status_of}
use Rattle.iol_headline.specs.Decisions.{IsExamined}
use Rattle.iol_port.specs.Heard.{download_begun}
use Rattle.iol_port.specs.Stage.{Stage, Settled, Downloading, Breaking, Returning}
use Rattle.iol_port.specs.declared.decision.Decision.TheVariants as decision
use Rattle.iol_port.specs.declared.stage.FoundDevice.{FoundDevice}
use Rattle.iol_port.specs.declared.status.PortStatus.{PortStatus}
use Rattle.iol_port.specs.declared.status.PortStatus.TheVariants as status
use Rattle.iol_engine.specs.PortRuns.{IsCoreAfter}
use Rattle.iol_core.specs.Events as trace
use Rattle.iol_core.specs.Events.{Event, Page, Attended, Accepted, Changed, Stamp, stamped}
use Rattle.iol_core.specs.Own.{own}
use Rattle.iol_core.specs.Statuses as shows
use Rattle.iol_headline.proofs.Going.{Goes, settles, still}
use Rattle.iol_headline.proofs.Reading.{exchanged_own}
use Rattle.iol_headline.proofs.Uploading.{page_shown}
use Rattle.iol_headline.proofs.Stages.{Begins, Downloads, Told}
use Rattle.iol_headline.proofs.Talks.{talk_more, own_more}
use Rattle.iol_headline.specs.Conversations.{Converses}

-- statuses that differ
downloading_starts : status.Downloading ≡ status.Starting → ⊥
downloading_starts same = cc

down_up : {port : ℕ} → Changed port shows.Downloading ∷ [] ≡ Changed port shows.Uploading ∷ [] → ⊥
down_up same = cc

module _ (first : ℕ) (start : State) (port connection : ℕ) (events : List Stamp) (clock : ℕ) where
  -- an exchange with the device of the port
  abbrev exchanged : List ℕ → List ℕ → List Event
  exchanged octets back = trace.Exchange port connection octets back ∷ []

  -- the events with those of a step
  abbrev behind : List Event → List Stamp
  behind called = events ++ stamped clock called

  -- the stage after a step that reports this
  abbrev Leads : List Event → PortStatus → Stage → Type 0
  Leads called was stage = Goes first start port connection events clock called was stage

  -- the status stays
  stays : (called : List Event) (stage : Stage) → Told first start port connection (behind called) stage
      → Leads called (status_of stage) stage
  stays called stage is = still first start port connection events clock called stage is

  -- the port settles
  rests : (called : List Event) (was : PortStatus) (own : Rest) → Leads called was (Settled own)
  rests called was own = settles first start port connection events clock called was own

  -- the core gives a permit to download, or refuses it
  pub download_goes : (found : FoundDevice) (checksum : ℕ) (begins : Result DownloadBegun DownloadFault) (old new : CoreView)
      → IsCoreAfter first start events old
      → Begins first start port connection decision.Download found events
      → IsBeginDownload old port found.page.vendor found.page.device checksum new begins
      → IfOk begins (IsBegunFor port found.page.vendor found.page.device)
      → Leads [] status.Starting (download_begun found.page begins)
  download_goes found checksum (Err why) old new core is begun comes = rests [] status.Starting (rest.Failed (fault.Download why))
  download_goes found checksum (Ok begins) old new core is begun comes = by (durable_set old port) refl begun.2
    where
      examined : IsExamined decision.Download port (own port (events ++ []))
      examined = subst (λ (es : List Stamp). IsExamined decision.Download port (own port es)) (sym (append-nil events)) is.examined

      by : (set : Option Stored) → durable_set old port ≡ set → IsSomeAnd set (λ stored. begins.set.value ≡ stored.set)
          → Leads [] status.Starting (download_begun found.page (Ok begins))
      by None at same told shown = absurd same
      by (Some stored) at same told (inl stays) = absurd (downloading_starts stays.1)
      by (Some stored) at same told (inr now) = (
        record {
          early = events;
          clock = clock;
          late = [];
          page = found.page;
          stored = stored;
          conversation = [];
          split = ap (λ (es : List Event). events ++ stamped clock es) now.0;
          shown = page_shown first start port connection events clock decision.Download found is;
          told = refl;
          durable = ap (λ (s : State). stored_at (port_numbered s port)) (sym core.durable) ∙ at;
          vendor = ap (λ (s : SetValue). s.vendor) (sym same) ∙ comes.vendor_is;
          device = ap (λ (s : SetValue). s.device) (sym same) ∙ comes.device_is;
          set_is = subst IsSet same comes.set_is;
          since = record { set_is = same; sent = []; before = []; order = refl; is = refl; few = lit< tt; follows = refl };
        },
        ((λ one. absurd (down_up (sym now.0 ∙ one))), (λ one. examined)),
      )

  -- the answer to a request of a download
  pub sent_goes : (permit : ℕ) (page : PageValue) (download : Sender) (octets back : List ℕ) (heard : Result Answer IsduFault)
      → IsShortestRequest octets (sent_by download.sends)
      → Downloads first start port connection download events → answer_of back ≡ heard
      → Leads (exchanged octets back) status.Downloading (download_answered permit page download heard)
  sent_goes permit page download octets back (Err why) spelled is read =
      stays (exchanged octets back) (Breaking (held.Download permit) (fault.Isdu why)) tt
  sent_goes permit page download octets back (Ok said) spelled is read = by (sent download said) refl
    where
      by : (now : Sent) → sent download said ≡ now
          → Leads (exchanged octets back) status.Downloading (downloaded permit page now)
      by (GoesOn next) goes = stays (exchanged octets back) (Downloading permit page next) (record {
        early = is.early;
        clock = is.clock;
        late = is.late ++ stamped clock (exchanged octets back);
        page = is.page;
        stored = is.stored;
        conversation = is.conversation ++ answered_to download said ∷ [];
        split =
            ap (λ (es : List Stamp). es ++ stamped clock (exchanged octets back)) is.split
            ∙ append_assoc is.early (record { event = Changed port shows.Downloading; clock = is.clock } ∷ is.late)
            (stamped clock (exchanged octets back));
        shown = is.shown;
        told = subst (λ (es : List Event). Converses port connection es (is.conversation ++ answered_to download said ∷ []))
            (sym (own_more port is.late (stamped clock (exchanged octets back)) _
            (exchanged_own first start port connection events clock octets back)))
            (talk_more port connection (own port is.late) is.conversation octets back (sent_by download.sends) said spelled read is.told);
        durable = is.durable;
        vendor = is.vendor;
        device = is.device;
        set_is = is.set_is;
        since = fed-on download next said download_step.More (sent_step download next said goes) is.stored.set is.conversation is.since;
      })
      by Done goes = stays (exchanged octets back) (Returning (held.Download permit) (rest.Ready page)) tt
      by (Ends why) goes = stays (exchanged octets back) (Breaking (held.Download permit) (fault.Transfer why)) tt
