-- What a port reports as it acts is lawful.
use Rattle.std.proofs.Common.{◌≡◌, refl, ℕ, List, [], ◌∷◌, sym, ap, ◌∙◌, subst}
use Rattle.std.specs.Prelude.{Some, None, Result, Ok, Err}
use Rattle.std.specs.Option.{option_map}
use Rattle.iol_types.specs.DataSet.{SetValue}
use Rattle.iol_types.specs.State.{State, port_numbered}
use Rattle.iol_core.specs.Core.{CoreView, live}
use Rattle.iol_core.specs.Downloads.{stored_at, durable_set}
use Rattle.iol_core.specs.Ports.{work_of}
use Rattle.iol_core.specs.Telling.{work_told}
use Rattle.iol_core.specs.Uploads.{store_of, IsFinish}
use Rattle.iol_core.specs.declared.permit.UploadGrant.{UploadGrant}
use Rattle.iol_core.specs.declared.port.Work.{Work}
use Rattle.iol_core.specs.declared.upload.FinishFault.{FinishFault}
use Rattle.iol_transfer.specs.declared.command.DsCommand.TheVariants as command
use Rattle.iol_link.specs.Isdu.{IsShortestRequest}
use Rattle.iol_link.specs.declared.messages.Request.{Request}
use Rattle.iol_link.specs.Link.{LinkCall, LinkAnswer}
use Rattle.iol_transfer.specs.Command.{commanded}
use Rattle.iol_port.proofs.Keeping.{IsAtHand}
use Rattle.iol_port.specs.History.{ComesOf}
use Rattle.iol_port.specs.Stage.{Stage, Settled, Paging, Attending, BeginningUpload, BeginningDownload, Exchanging, Uploading, Filing}
use Rattle.iol_port.specs.Stage.{Filed, Storing, Downloading, Breaking, Returning, Returned}
use Rattle.iol_port.specs.Wanted.{AnswerTo, wanted}
use Rattle.iol_port.specs.declared.action.Input.{Input}
use Rattle.iol_port.specs.declared.action.Input.TheVariants as input
use Rattle.iol_port.specs.declared.call.Reply.TheVariants as reply
use Rattle.iol_port.specs.declared.stage.Held.TheVariants as held
use Rattle.iol_engine.specs.PortRuns.{IsCoreAfter}
use Rattle.iol_engine.specs.PortSteps.{Hears, HearsAnswer, filed_told}
use Rattle.iol_core.specs.Events as trace
use Rattle.iol_core.specs.Events.{Event, Page, Lost, Attended, Accepted, Changed, Stamp, stamped}
use Rattle.iol_core.specs.Own.{own}
use Rattle.iol_core.specs.Statuses.{Status}
use Rattle.iol_core.specs.Statuses as shows
use Rattle.iol_headline.specs.Decisions.{DecidedFirst}
use Rattle.iol_headline.proofs.Going.{Began, is_said}
use Rattle.iol_headline.proofs.Lawful.{IsLawfulAt, WasStored, unsent_lawful}
use Rattle.iol_headline.proofs.Places.{EachFrom}
use Rattle.iol_headline.proofs.Sending.{one_request, ends_stored, writes_downloads, writes_command}
use Rattle.iol_headline.proofs.Stages.{Told, IsWhole}
use Rattle.iol_headline.proofs.Uploading.{whole_set}
use Rattle.iol_headline.specs.Downloads.{IsDownloadOf, WritesParameter}
use Rattle.iol_headline.specs.Settled.{SettlesBy}
use Rattle.iol_headline.specs.WholeSets.{IsUploadedWhole}

module _ (first : ℕ) (start : State) where
  -- a transfer that begins was decided
  decided_by : (before : List Stamp) (port : ℕ) (status : Status) (told : List Event) → told ≡ Changed port status ∷ []
      → Began port before told
      → DecidedFirst before (Changed port status)
  decided_by before port shows.Uploading told is began = began.0 is
  decided_by before port shows.Downloading told is began = began.1 is
  decided_by before port status told is began = tt

  -- a status is reported
  pub changed_lawful : (before : List Stamp) (port : ℕ) (status : Status) (told : List Event) → told ≡ Changed port status ∷ []
      → Began port before told
      → SettlesBy port (own port before) status → IsLawfulAt first start before (Changed port status)
  changed_lawful before port status told is began settled =
      unsent_lawful first start before (Changed port status) (λ p c r sent. sent) tt tt (decided_by before port status told is began)
      settled

  -- these events, one at most, are lawful
  one_lawful : (events : List Stamp) (clock : ℕ) (called : List Event) (e : Event) → called ≡ e ∷ [] → IsLawfulAt first start events e
      → EachFrom (IsLawfulAt first start) events (stamped clock called)
  one_lawful events clock called e is lawful =
      subst (λ (es : List Event). EachFrom (IsLawfulAt first start) events (stamped clock es)) (sym is) (lawful, tt)

  pub none_lawful : (events : List Stamp) (clock : ℕ) (called : List Event) → called ≡ []
      → EachFrom (IsLawfulAt first start) events (stamped clock called)
  none_lawful events clock called is = subst (λ (es : List Event). EachFrom (IsLawfulAt first start) events (stamped clock es)) (sym is) tt

  module _ {L : Type 0} (number : L → ℕ) (steps : L → LinkCall → LinkAnswer → L → Type 0) (port : ℕ) (events : List Stamp) (clock : ℕ)
      (link last : L) (old new : CoreView) (core : IsCoreAfter first start events old) where
    abbrev AreLawful : List Event → Type 0
    AreLawful called = EachFrom (IsLawfulAt first start) events (stamped clock called)

    -- what is sent at a stage
    ends : (stage : Stage) (request : Request) (octets : List ℕ) (p c : ℕ) → Told first start port (number link) events stage
        → wanted port stage ≡ AnswerTo request
        → IsShortestRequest octets request → (port ≡ p) × (number link ≡ c) × IsShortestRequest octets (commanded command.UploadEnd)
        → WasStored first p c events
    ends stage request octets p c is wants spelled sent =
        subst (λ (q : ℕ). WasStored first q c events) sent.0
        (subst (λ (d : ℕ). WasStored first port d events) sent.1
        (ends_stored first start port (number link) events stage is (wants
        ∙ ap AnswerTo (one_request octets request (commanded command.UploadEnd) spelled sent.2))))

    -- so is a parameter
    writes : (stage : Stage) (request : Request) (octets : List ℕ) (p c : ℕ) (other : Request)
        → Told first start port (number link) events stage
        → wanted port stage ≡ AnswerTo request → IsShortestRequest octets request → (port ≡ p) × (number link ≡ c)
        × IsShortestRequest octets other
        → WritesParameter other → IsDownloadOf first start p c other events
    writes stage request octets p c other is wants spelled sent parameter =
        subst (λ (q : ℕ). IsDownloadOf first start q c other events) sent.0
        (subst (λ (d : ℕ). IsDownloadOf first start port d other events) sent.1
        (writes_downloads first start port (number link) events stage other is (wants
        ∙ ap AnswerTo (one_request octets request other spelled sent.2)) parameter))

    -- an exchange, and a loss at a request
    exchange_lawful : (stage : Stage) (request : Request) (octets back : List ℕ) → Told first start port (number link) events stage
        → wanted port stage ≡ AnswerTo request
        → IsShortestRequest octets request → IsLawfulAt first start events (trace.Exchange port (number link) octets back)
    exchange_lawful stage request octets back is wants spelled = record {
      whole = tt;
      ends = λ p c sent. ends stage request octets p c is wants spelled sent;
      downloads = λ p c r sent parameter. writes stage request octets p c r is wants spelled sent parameter;
      commands = λ p c n os sent. writes_command first start port (number link) events stage request is wants n os
          (one_request octets request _ spelled sent.2);
      works = tt;
      decided = tt;
      settled = tt;
    }

    lost_lawful : (stage : Stage) (request : Request) (octets : List ℕ) → Told first start port (number link) events stage
        → wanted port stage ≡ AnswerTo request
        → IsShortestRequest octets request → IsLawfulAt first start events (Lost port (number link) (Some octets))
    lost_lawful stage request octets is wants spelled = record {
      whole = tt;
      ends = λ p c sent. ends stage request octets p c is wants spelled sent;
      downloads = λ p c r sent parameter. writes stage request octets p c r is wants spelled sent parameter;
      commands = λ p c n os sent. writes_command first start port (number link) events stage request is wants n os
          (one_request octets request _ spelled sent.2);
      works = tt;
      decided = tt;
      settled = tt;
    }

    -- whatever becomes of a request
    sent_lawful : (stage : Stage) (request : Request) (heard : Input) (called : List Event)
        → Told first start port (number link) events stage
        → wanted port stage ≡ AnswerTo request → (octets : List ℕ) → IsShortestRequest octets request
        → HearsAnswer number steps port octets heard link last called → AreLawful called
    sent_lawful stage request (input.Octets back) called is wants octets spelled hears =
        one_lawful events clock called (trace.Exchange port (number link) octets back.items) hears.2
        (exchange_lawful stage request octets back.items is wants spelled)
    sent_lawful stage request input.Lost called is wants octets spelled hears =
        one_lawful events clock called (Lost port (number link) (Some octets)) hears.2 (lost_lawful stage request octets is wants spelled)
    sent_lawful stage request input.Wake called is wants octets spelled hears = absurd hears
    sent_lawful stage request (input.Event code) called is wants octets spelled hears = absurd hears
    sent_lawful stage request (input.Page c os) called is wants octets spelled hears = absurd hears
    sent_lawful stage request (input.Reply r) called is wants octets spelled hears = absurd hears

    -- the work of the port
    work_lawful : (work : Work) → Some work ≡ option_map (λ p. work_of p (durable_set old port)) (port_numbered (live old) port)
        → IsLawfulAt first start events (Attended port (work_told work))
    work_lawful work at =
        let said = is_said first start port (number link) events old work core at in
        unsent_lawful first start events (Attended port (work_told work)) (λ p c r sent. sent) tt (record {
          kept = said.kept;
          there = said.there;
          config = ap (λ (w : Work). w.config) said.work_is;
          revision = ap (λ (w : Work). w.revision) said.work_is;
          checksum =
              ap (λ (w : Work). w.checksum) said.work_is
              ∙ ap (λ (s : State). option_map (λ stored. stored.set.checksum) (stored_at (port_numbered s port))) core.durable;
        }) tt tt

    -- a set is accepted, or refused
    filed_lawful : (grant : UploadGrant) (set : SetValue) (finished : Result ℕ FinishFault) (called : List Event)
        → IsWhole first start port (number link) grant set events
        → (answer : IsFinish old grant set new finished) → called ≡ filed_told (Some (store_of grant set)) finished → AreLawful called
    filed_lawful grant set (Ok ticket) called is filed told =
        one_lawful events clock called (Accepted ticket (store_of grant set)) told
        (unsent_lawful first start events (Accepted ticket (store_of grant set)) (λ p c r sent. sent) (
          number link,
          subst (λ (p : ℕ). IsUploadedWhole p (number link) set events) (sym is.uploads.port_is)
              (whole_set first start port (number link) events clock grant set old core is filed.0.revision),
        ) tt tt tt)
    filed_lawful grant set (Err why) called is filed told = none_lawful events clock called told

    -- the table: each stage, and each thing that it may hear
    pub acts_lawful : (stage : Stage) (heard : Input) (called : List Event) → Told first start port (number link) events stage
        → IsAtHand stage
        → ComesOf (wanted port stage) heard → Hears number steps port (wanted port stage) heard link last old new called → AreLawful called
    acts_lawful (Settled own) heard called is hand comes hears = absurd hears
    acts_lawful (Paging what) (input.Page connection octets) called is hand comes hears =
        one_lawful events clock called (Page port (number link) octets) hears.0.3
        (unsent_lawful first start events (Page port (number link) octets) (λ p c r sent. sent) tt tt tt tt)
    acts_lawful (Paging what) input.Lost called is hand comes hears =
        one_lawful events clock called (Lost port (number link) None) hears.0.2
        (unsent_lawful first start events (Lost port (number link) None) (λ p c r sent. sent) tt tt tt tt)
    acts_lawful (Paging what) heard called is hand comes hears = absurd comes
    acts_lawful (Attending what) (input.Reply (reply.Attended None)) called is hand comes hears = none_lawful events clock called hears.0.1
    acts_lawful (Attending what) (input.Reply (reply.Attended (Some work))) called is hand comes hears =
        one_lawful events clock called (Attended port (work_told work)) hears.0.1 (work_lawful work hears.0.0.0)
    acts_lawful (Attending what) heard called is hand comes hears = absurd comes
    acts_lawful (BeginningUpload found) (input.Reply (reply.BegunUpload begins)) called is hand comes hears =
        none_lawful events clock called hears.0.1
    acts_lawful (BeginningUpload found) heard called is hand comes hears = absurd comes
    acts_lawful (BeginningDownload found checksum) (input.Reply (reply.BegunDownload begins)) called is hand comes hears =
        none_lawful events clock called hears.0.1
    acts_lawful (BeginningDownload found checksum) heard called is hand comes hears = absurd comes
    acts_lawful (Exchanging what) heard called is hand comes hears =
        sent_lawful (Exchanging what) _ heard called is refl hears.0.0 hears.0.1 hears.0.2
    acts_lawful (Uploading grant page upload) heard called is hand comes hears =
        sent_lawful (Uploading grant page upload) _ heard called is refl hears.0.0 hears.0.1 hears.0.2
    acts_lawful (Filing grant page set) (input.Reply (reply.FinishedUpload finished)) called is hand comes hears =
        filed_lawful grant set finished called is hears.0.0 hears.0.1
    acts_lawful (Filing grant page set) heard called is hand comes hears = absurd comes
    acts_lawful (Filed page) heard called is hand comes hears = absurd cc
    acts_lawful (Storing ticket page) (input.Reply (reply.Ticket state)) called is hand comes hears =
        none_lawful events clock called hears.0.1
    acts_lawful (Storing ticket page) heard called is hand comes hears = absurd comes
    acts_lawful (Downloading permit page download) heard called is hand comes hears =
        sent_lawful (Downloading permit page download) _ heard called is refl hears.0.0 hears.0.1 hears.0.2
    acts_lawful (Breaking holder why) heard called is hand comes hears =
        sent_lawful (Breaking holder why) _ heard called is refl hears.0.0 hears.0.1 hears.0.2
    acts_lawful (Returning (held.Upload permit) own) (input.Reply reply.AbandonedUpload) called is hand comes hears =
        none_lawful events clock called hears.0.1
    acts_lawful (Returning (held.Upload permit) own) heard called is hand comes hears = absurd comes
    acts_lawful (Returning (held.Download permit) own) (input.Reply reply.EndedDownload) called is hand comes hears =
        none_lawful events clock called hears.0.1
    acts_lawful (Returning (held.Download permit) own) heard called is hand comes hears = absurd comes
    acts_lawful (Returned transfer own) heard called is hand comes hears = absurd cc
