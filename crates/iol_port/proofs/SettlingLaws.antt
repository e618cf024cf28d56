-- A port settles for its reason.
use Rattle.iol_port.specs.Stage.{Stage, Settled, Paging, Attending, BeginningUpload, BeginningDownload, Exchanging, Uploading, Filing}
use Rattle.iol_port.specs.Stage.{machine_at, Filed, Storing, Downloading, Breaking, Returning, Returned, PortValue, Next, To, Start}
use Rattle.iol_port.specs.Wanted.{ThePage, ReplyTo, wanted, after_action}
use Rattle.iol_port.specs.History.{ComesOf, Happening, Raised, Did, Happens, HasLed}
use Rattle.iol_port.specs.Heard.{page_heard, judged, attended, IsFed, fed, moved, at_stage}
use Rattle.iol_port.specs.declared.stage.Rest.{Rest}
use Rattle.std.proofs.Common.{◌≡◌, inl, inr, ℕ, Bool, true, false, if◌then◌else◌, List, [], ◌∷◌, refl, sym, ap, ◌∙◌, subst}
use Rattle.std.specs.Prelude.{Option, Result}
use Rattle.iol_types.specs.Config.{is_manual}
use Rattle.iol_link.specs.Reading.{answer_of}
use Rattle.iol_link.specs.declared.messages.Answer.{Answer}
use Rattle.iol_link.specs.declared.faults.IsduFault.{IsduFault}
use Rattle.iol_link.specs.Page.{page_of}
use Rattle.iol_port.specs.Answers.{RunsOut}
use Rattle.iol_port.proofs.Keeping.{IsAtHand}
use Rattle.iol_port.specs.declared.action.Input.{Input}
use Rattle.iol_port.specs.declared.action.Input.TheVariants as input
use Rattle.iol_port.specs.declared.call.Reply.TheVariants as reply
use Rattle.iol_port.specs.declared.stage.Rest.TheVariants as rest
use Rattle.iol_port.specs.declared.stage.PageFor.TheVariants as page_for
use Rattle.iol_port.specs.declared.stage.Held.TheVariants as held
use Rattle.iol_port.specs.Calls.{Attend}
use Rattle.iol_port.specs.Laws.{IsJudged}
use Rattle.iol_port.specs.Status.{status_of, status_at_rest}
use Rattle.iol_port.specs.declared.status.PortStatus.{PortStatus}
use Rattle.iol_port.proofs.Knowing.{Lands, KnownIs, NextKnown, raised_known}
use Rattle.iol_port.proofs.Leading.{led_is}
use Rattle.iol_port.proofs.Settling.{exchanged_known, upload_known, download_known, page_known, attended_known, begun_known}
use Rattle.iol_port.proofs.Settling.{download_begun_known, finished_known, ticket_known, returned_known}
use Rattle.iol_port.proofs.Feeding.{fed_is}

moved_known : (was : PortStatus) (value : PortValue) (next : Next) (history : List Happening) → NextKnown was history next
    → KnownIs was history (moved value next).stage
moved_known was value (To stage) history is = is
moved_known was value (Start work) history is = by (is_manual work.config.mode) refl
  where
    by : (test : Bool) → is_manual work.config.mode ≡ test
        → KnownIs was history (if test then Paging (page_for.Identifying work) else Settled rest.Off)
    by true manual = (is, manual)
    by false manual = inr (inr (work, is, manual))

-- any outcome of what was wanted
comes_known : (was : PortStatus) (port : ℕ) (started : Option ℕ) (requested : Bool) (stage : Stage) (heard : Input)
    (before : List Happening)
    → KnownIs was before stage
    → IsAtHand stage → ComesOf (wanted port stage) heard
    → KnownIs (status_of stage) (Did (wanted port stage) heard ∷ before)
    (fed (machine_at port started requested (after_action stage)) heard).stage
comes_known was port started requested (Settled own) input.Wake before is hand comes = tt
comes_known was port started requested (Settled own) heard before is hand comes = absurd comes
comes_known was port started requested (Paging what) (input.Page connection octets) before is hand comes =
    moved_known (status_of (Paging what)) (machine_at port started requested (Paging what))
    (page_heard what connection (page_of octets))
    (Did ThePage (input.Page connection octets) ∷ before) (page_known what connection octets before is)
comes_known was port started requested (Paging what) input.Lost before is hand comes = inr tt
comes_known was port started requested (Paging what) heard before is hand comes = absurd comes
comes_known was port started requested (Attending what) (input.Reply (reply.Attended work)) before is hand comes =
    moved_known (status_of (Attending what)) (machine_at port started requested (Attending what))
    (attended started requested what work)
    (Did (ReplyTo (Attend port)) (input.Reply (reply.Attended work)) ∷ before) (attended_known port started requested what work before is)
comes_known was port started requested (Attending what) heard before is hand comes = absurd comes
comes_known was port started requested (BeginningUpload found) (input.Reply (reply.BegunUpload begins)) before is hand comes =
    begun_known _ found.page _ begins before is
comes_known was port started requested (BeginningUpload found) heard before is hand comes = absurd comes
comes_known was port started requested (BeginningDownload found checksum) (input.Reply (reply.BegunDownload begins)) before is hand comes =
    download_begun_known _ found.page _ begins before is
comes_known was port started requested (BeginningDownload found checksum) heard before is hand comes = absurd comes
comes_known was port started requested (Exchanging what) (input.Octets octets) before is hand comes =
    exchanged_known _ what _ before octets is
comes_known was port started requested (Exchanging what) input.Lost before is hand comes = inr tt
comes_known was port started requested (Exchanging what) heard before is hand comes = absurd comes
comes_known was port started requested (Uploading grant page upload) (input.Octets octets) before is hand comes =
    upload_known _ grant page upload _ before octets (answer_of octets.items) is refl
comes_known was port started requested (Uploading grant page upload) input.Lost before is hand comes = tt
comes_known was port started requested (Uploading grant page upload) heard before is hand comes = absurd comes
comes_known was port started requested (Filing grant page set) (input.Reply (reply.FinishedUpload finished)) before is hand comes =
    finished_known _ page _ finished before is
comes_known was port started requested (Filing grant page set) heard before is hand comes = absurd comes
comes_known was port started requested (Filed page) heard before is hand comes = absurd cc
comes_known was port started requested (Storing number page) (input.Reply (reply.Ticket state)) before is hand comes =
    ticket_known _ number page _ state before is
comes_known was port started requested (Storing number page) heard before is hand comes = absurd comes
comes_known was port started requested (Downloading permit page download) (input.Octets octets) before is hand comes =
    download_known _ permit page download _ before octets (answer_of octets.items) is refl
comes_known was port started requested (Downloading permit page download) input.Lost before is hand comes = tt
comes_known was port started requested (Downloading permit page download) heard before is hand comes = absurd comes
comes_known was port started requested (Breaking holder why) (input.Octets octets) before is hand comes = tt
comes_known was port started requested (Breaking holder why) input.Lost before is hand comes = tt
comes_known was port started requested (Breaking holder why) heard before is hand comes = absurd comes
comes_known was port started requested (Returning (held.Upload permit) own) (input.Reply reply.AbandonedUpload) before is hand comes =
    returned_known _ _ reply.AbandonedUpload own before tt is
comes_known was port started requested (Returning (held.Upload permit) own) heard before is hand comes = absurd comes
comes_known was port started requested (Returning (held.Download permit) own) (input.Reply reply.EndedDownload) before is hand comes =
    returned_known _ _ reply.EndedDownload own before tt is
comes_known was port started requested (Returning (held.Download permit) own) heard before is hand comes = absurd comes
comes_known was port started requested (Returned transfer own) heard before is hand comes = absurd cc

out_known : (was : PortStatus) (stage : Stage) (heard : Result Answer IsduFault) (new : Stage) (history : List Happening)
    → RunsOut stage heard new → KnownIs was history new
out_known was (Uploading grant page upload) heard new history out = subst (KnownIs was history) (sym out.1) tt
out_known was stage heard new history out = absurd out

did_known : (was : PortStatus) (before : List Happening) (old new : PortValue) (heard : Input) → KnownIs was before old.stage
    → IsAtHand old.stage
    → ComesOf (wanted old.port old.stage) heard → IsFed (at_stage old (after_action old.stage)) heard new
    → KnownIs (status_of old.stage) (Did (wanted old.port old.stage) heard ∷ before) new.stage
did_known was before old new heard is hand comes led =
    fed_is (λ value. KnownIs (status_of old.stage) history value.stage) (at_stage old (after_action old.stage)) new heard led
    (comes_known was old.port old.started_revision old.upload_requested old.stage heard before is hand comes)
    (λ octets stage runs. out_known (status_of old.stage) (after_action old.stage) (answer_of octets.items) stage history runs)
  where
    history : List Happening
    history = Did (wanted old.port old.stage) heard ∷ before

happens_known : (was : PortStatus) (before : List Happening) (old new : PortValue) (latest : Happening) → KnownIs was before old.stage
    → IsAtHand old.stage
    → Happens old latest new → KnownIs (status_of old.stage) (latest ∷ before) new.stage
happens_known was before old new (Raised code) is hand happens =
    subst (λ (value : PortValue). KnownIs (status_of old.stage) (Raised code ∷ before) value.stage) (sym happens)
    (raised_known was before code old.stage is)
happens_known was before old new (Did wants heard) is hand happens =
    subst (λ w. KnownIs (status_of old.stage) (Did w heard ∷ before) new.stage) (sym happens.0)
    (did_known was before old new heard is hand (subst (λ w. ComesOf w heard) happens.0 happens.1) happens.2)

-- the whole history
known_is : (port : ℕ) (history : List Happening) (last : PortValue) → HasLed port history last
    → (was : PortStatus) × KnownIs was history last.stage
known_is port [] last is =
    (status_of (Settled rest.Off), subst (λ (value : PortValue). KnownIs (status_of (Settled rest.Off)) [] value.stage) (sym is) (inl refl))
known_is port (latest ∷ before) last (old, led, happens) =
    let first = known_is port before old led in
    (status_of old.stage, happens_known first.0 before old last latest first.1 (led_is port before old led).hand happens)

landed : (was : PortStatus) (history : List Happening) (own : Rest) → Lands was history own → (was ≡ status_at_rest own → ⊥)
    → IsJudged own history
landed was history own (inl same) changes = absurd (changes (sym same))
landed was history own (inr judged) changes = judged

pub a_port_settles_for_its_reason : (port : ℕ) (history : List Happening) (old new : PortValue) (latest : Happening) (own : Rest)
    → HasLed port history old
    → Happens old latest new → new.stage ≡ Settled own → (status_of old.stage ≡ status_of new.stage → ⊥) → IsJudged own (latest ∷ history)
a_port_settles_for_its_reason port history old new latest own led happens settles changes =
    let first = known_is port history old led in
    let known = happens_known first.0 history old new latest first.1 (led_is port history old led).hand happens in
    landed (status_of old.stage) (latest ∷ history) own (subst (KnownIs (status_of old.stage) (latest ∷ history)) settles known)
    (λ same. changes (same ∙ sym (ap status_of settles)))
