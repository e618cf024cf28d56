-- A port becomes ready only if its device has what is stored for it.
use Rattle.std.proofs.Common.{◌≡◌, inl, inr, ℕ, Bool, true, false, if◌then◌else◌, List, [], ◌∷◌, refl, sym, ap, ◌∙◌, subst}
use Rattle.std.specs.Prelude.{Option, Result}
use Rattle.iol_types.specs.Config.{is_manual}
use Rattle.iol_link.specs.Reading.{answer_of}
use Rattle.iol_link.specs.declared.messages.Answer.{Answer}
use Rattle.iol_link.specs.declared.faults.IsduFault.{IsduFault}
use Rattle.iol_link.specs.Page.{PageValue, page_of}
use Rattle.iol_port.specs.Answers.{RunsOut}
use Rattle.iol_port.specs.Calls.{Attend}
use Rattle.iol_port.specs.Heard.{page_heard, attended, IsFed, fed, moved, at_stage}
use Rattle.iol_port.specs.History.{ComesOf, Happening, Raised, Did, Happens, HasLed}
use Rattle.iol_port.specs.Laws.{IsRestored, IsSoDecided}
use Rattle.iol_port.specs.Stage.{Stage, Settled, Paging, Attending, BeginningUpload, BeginningDownload, Exchanging, Uploading, Filing}
use Rattle.iol_port.specs.Stage.{machine_at, Filed, Storing, Downloading, Breaking, Returning, Returned, PortValue, Next, To, Start}
use Rattle.iol_port.specs.Status.{status_of, status_at_rest}
use Rattle.iol_port.specs.Wanted.{ThePage, ReplyTo, wanted, after_action}
use Rattle.iol_port.specs.declared.action.Input.{Input}
use Rattle.iol_port.specs.declared.action.Input.TheVariants as input
use Rattle.iol_port.specs.declared.call.Reply.TheVariants as reply
use Rattle.iol_port.specs.declared.decision.Decision.TheVariants as decision
use Rattle.iol_port.specs.declared.stage.Rest.{Rest}
use Rattle.iol_port.specs.declared.stage.Rest.TheVariants as rest
use Rattle.iol_port.specs.declared.stage.PageFor.TheVariants as page_for
use Rattle.iol_port.specs.declared.stage.Held.TheVariants as held
use Rattle.iol_port.specs.declared.status.PortStatus.{PortStatus}
use Rattle.iol_port.proofs.Keeping.{IsAtHand}
use Rattle.iol_port.proofs.Leading.{IsLed, led_is}
use Rattle.iol_port.proofs.Stages.{StageIs}
use Rattle.iol_port.proofs.Written.{IsRested, Rests, WrittenIs, NextWritten, raised_written}
use Rattle.iol_port.proofs.Writing.{exchanged_written, upload_written}
use Rattle.iol_port.proofs.Writing.{download_written, page_written, attended_written, begun_written, download_begun_written}
use Rattle.iol_port.proofs.Writing.{finished_written, ticket_written, upload_returned, download_returned}
use Rattle.iol_port.proofs.Feeding.{fed_is}

moved_written : (port : ℕ) (was : PortStatus) (value : PortValue) (next : Next) (history : List Happening)
    → NextWritten port was history next
    → WrittenIs port was history (moved value next).stage
moved_written port was value (To stage) history is = is
moved_written port was value (Start work) history is = by (is_manual work.config.mode)
  where
    by : (test : Bool) → WrittenIs port was history (if test then Paging (page_for.Identifying work) else Settled rest.Off)
    by true = tt
    by false = inr tt

-- any outcome of what was wanted
comes_written : (port : ℕ) (was : PortStatus) (started : Option ℕ) (requested : Bool) (stage : Stage) (heard : Input)
    (before : List Happening)
    → StageIs port before stage → WrittenIs port was before stage → IsAtHand stage → ComesOf (wanted port stage) heard
    → WrittenIs port (status_of stage) (Did (wanted port stage) heard ∷ before)
    (fed (machine_at port started requested (after_action stage)) heard).stage
comes_written port was started requested (Settled own) input.Wake before at is hand comes = tt
comes_written port was started requested (Settled own) heard before at is hand comes = absurd comes
comes_written port was started requested (Paging what) (input.Page connection octets) before at is hand comes =
    moved_written port (status_of (Paging what)) (machine_at port started requested (Paging what))
    (page_heard what connection (page_of octets))
    (Did ThePage (input.Page connection octets) ∷ before) (page_written port what connection octets before at)
comes_written port was started requested (Paging what) input.Lost before at is hand comes = inr tt
comes_written port was started requested (Paging what) heard before at is hand comes = absurd comes
comes_written port was started requested (Attending what) (input.Reply (reply.Attended work)) before at is hand comes =
    moved_written port (status_of (Attending what)) (machine_at port started requested (Attending what))
    (attended started requested what work)
    (Did (ReplyTo (Attend port)) (input.Reply (reply.Attended work)) ∷ before)
    (attended_written port (status_of (Attending what)) started requested what work before at)
comes_written port was started requested (Attending what) heard before at is hand comes = absurd comes
comes_written port was started requested (BeginningUpload found) (input.Reply (reply.BegunUpload begins)) before at is hand comes =
    begun_written port (status_of (BeginningUpload found))
    (Did (wanted port (BeginningUpload found)) (input.Reply (reply.BegunUpload begins)) ∷ before) found.page begins
comes_written port was started requested (BeginningUpload found) heard before at is hand comes = absurd comes
comes_written port was started requested (BeginningDownload found checksum)
    (input.Reply (reply.BegunDownload begins)) before at is hand comes =
    download_begun_written port (status_of (BeginningDownload found checksum)) found checksum begins before comes
comes_written port was started requested (BeginningDownload found checksum) heard before at is hand comes = absurd comes
comes_written port was started requested (Exchanging what) (input.Octets octets) before at is hand comes =
    exchanged_written port (status_of (Exchanging what)) what before octets at
comes_written port was started requested (Exchanging what) input.Lost before at is hand comes = inr tt
comes_written port was started requested (Exchanging what) heard before at is hand comes = absurd comes
comes_written port was started requested (Uploading grant page upload) (input.Octets octets) before at is hand comes =
    upload_written port (status_of (Uploading grant page upload))
    (Did (wanted port (Uploading grant page upload)) (input.Octets octets) ∷ before) grant page upload
    (answer_of octets.items)
comes_written port was started requested (Uploading grant page upload) input.Lost before at is hand comes = tt
comes_written port was started requested (Uploading grant page upload) heard before at is hand comes = absurd comes
comes_written port was started requested (Filing grant page set) (input.Reply (reply.FinishedUpload finished)) before at is hand comes =
    finished_written port (status_of (Filing grant page set))
    (Did (wanted port (Filing grant page set)) (input.Reply (reply.FinishedUpload finished)) ∷ before) page finished
comes_written port was started requested (Filing grant page set) heard before at is hand comes = absurd comes
comes_written port was started requested (Filed page) heard before at is hand comes = absurd cc
comes_written port was started requested (Storing number page) (input.Reply (reply.Ticket state)) before at is hand comes =
    ticket_written port (status_of (Storing number page))
    (Did (wanted port (Storing number page)) (input.Reply (reply.Ticket state)) ∷ before) number page state
comes_written port was started requested (Storing number page) heard before at is hand comes = absurd comes
comes_written port was started requested (Downloading permit page download) (input.Octets octets) before at is hand comes =
    download_written port permit (status_of (Downloading permit page download)) page download before octets (answer_of octets.items) is refl
comes_written port was started requested (Downloading permit page download) input.Lost before at is hand comes = tt
comes_written port was started requested (Downloading permit page download) heard before at is hand comes = absurd comes
comes_written port was started requested (Breaking holder why) (input.Octets octets) before at is hand comes = tt
comes_written port was started requested (Breaking holder why) input.Lost before at is hand comes = tt
comes_written port was started requested (Breaking holder why) heard before at is hand comes = absurd comes
comes_written port was started requested (Returning (held.Upload permit) own) (input.Reply reply.AbandonedUpload) before at is hand comes =
    upload_returned port (status_of (Returning (held.Upload permit) own)) before
    (Did (wanted port (Returning (held.Upload permit) own)) (input.Reply reply.AbandonedUpload) ∷ before)
    permit own is
comes_written port was started requested (Returning (held.Upload permit) own) heard before at is hand comes = absurd comes
comes_written port was started requested (Returning (held.Download permit) own) (input.Reply reply.EndedDownload) before at is hand comes =
    download_returned port (status_of (Returning (held.Download permit) own))
    (wanted port (Returning (held.Download permit) own)) before permit own is
comes_written port was started requested (Returning (held.Download permit) own) heard before at is hand comes = absurd comes
comes_written port was started requested (Returned transfer own) heard before at is hand comes = absurd cc

out_written : (port : ℕ) (was : PortStatus) (stage : Stage) (heard : Result Answer IsduFault) (new : Stage) (history : List Happening)
    → RunsOut stage heard new
    → WrittenIs port was history new
out_written port was (Uploading grant page upload) heard new history out = subst (WrittenIs port was history) (sym out.1) tt
out_written port was stage heard new history out = absurd out

did_written : (port : ℕ) (was : PortStatus) (before : List Happening) (old new : PortValue) (heard : Input) → IsLed port before old
    → WrittenIs port was before old.stage → ComesOf (wanted old.port old.stage) heard
    → IsFed (at_stage old (after_action old.stage)) heard new
    → WrittenIs port (status_of old.stage) (Did (wanted old.port old.stage) heard ∷ before) new.stage
did_written port was before old new heard led is comes fed_so =
    fed_is (λ value. WrittenIs port (status_of old.stage) history value.stage)
    (at_stage old (after_action old.stage)) new heard fed_so whole
    (λ octets stage runs. out_written port (status_of old.stage) (after_action old.stage) (answer_of octets.items) stage history runs)
  where
    history : List Happening
    history = Did (wanted old.port old.stage) heard ∷ before

    at : StageIs old.port before old.stage
    at = subst (λ p. StageIs p before old.stage) (sym led.port_is) led.stage

    here : WrittenIs old.port was before old.stage
    here = subst (λ p. WrittenIs p was before old.stage) (sym led.port_is) is

    whole : WrittenIs port (status_of old.stage) history (fed (at_stage old (after_action old.stage)) heard).stage
    whole =
        subst (λ p. WrittenIs p (status_of old.stage) history (fed (at_stage old (after_action old.stage)) heard).stage) led.port_is
        (comes_written old.port was old.started_revision old.upload_requested old.stage heard before at here led.hand comes)

happens_written : (port : ℕ) (was : PortStatus) (before : List Happening) (old new : PortValue) (latest : Happening) → IsLed port before old
    → WrittenIs port was before old.stage → Happens old latest new → WrittenIs port (status_of old.stage) (latest ∷ before) new.stage
happens_written port was before old new (Raised code) led is happens =
    subst (λ (value : PortValue). WrittenIs port (status_of old.stage) (Raised code ∷ before) value.stage) (sym happens)
    (raised_written port was before code old.stage is)
happens_written port was before old new (Did wants heard) led is happens =
    subst (λ w. WrittenIs port (status_of old.stage) (Did w heard ∷ before) new.stage) (sym happens.0)
    (did_written port was before old new heard led is (subst (λ w. ComesOf w heard) happens.0 happens.1) happens.2)

-- the whole history
written_is : (port : ℕ) (history : List Happening) (last : PortValue) → HasLed port history last
    → (was : PortStatus) × WrittenIs port was history last.stage
written_is port [] last is = (
  status_of (Settled rest.Off),
  subst (λ (value : PortValue). WrittenIs port (status_of (Settled rest.Off)) [] value.stage) (sym is)
      (inl refl),
)
written_is port (latest ∷ before) last (old, led, happens) =
    let first = written_is port before old led in
    (status_of old.stage, happens_written port first.0 before old last latest (led_is port before old led) first.1 happens)

rested : (port : ℕ) (was : PortStatus) (history : List Happening) (own : Rest) → Rests port was history own
    → (was ≡ status_at_rest own → ⊥) → IsRested port history own
rested port was history own (inl same) changes = absurd (changes (sym same))
rested port was history own (inr is) changes = is

-- a port whose status changes as it settles
settles_written : (port : ℕ) (history : List Happening) (old new : PortValue) (latest : Happening) (own : Rest) → HasLed port history old
    → Happens old latest new → new.stage ≡ Settled own → (status_of old.stage ≡ status_of new.stage → ⊥)
    → IsRested port (latest ∷ history) own
settles_written port history old new latest own led happens settles changes =
    let first = written_is port history old led in
    let written = happens_written port first.0 history old new latest (led_is port history old led) first.1 happens in
    rested port (status_of old.stage) (latest ∷ history) own
    (subst (WrittenIs port (status_of old.stage) (latest ∷ history)) settles written)
    (λ same. changes (same ∙ sym (ap status_of settles)))

pub a_ready_port_is_restored : (port : ℕ) (history : List Happening) (old new : PortValue) (latest : Happening) (page : PageValue)
    → HasLed port history old
    → Happens old latest new → new.stage ≡ Settled (rest.Ready page) → (status_of old.stage ≡ status_of new.stage → ⊥)
    → IsRestored port page (latest ∷ history)
a_ready_port_is_restored port history old new latest page led happens settles changes =
    settles_written port history old new latest (rest.Ready page) led happens settles changes

pub a_locked_port_is_decided : (port : ℕ) (history : List Happening) (old new : PortValue) (latest : Happening) (page : PageValue)
    → HasLed port history old
    → Happens old latest new → new.stage ≡ Settled (rest.ReadyLocked page) → (status_of old.stage ≡ status_of new.stage → ⊥)
    → IsSoDecided decision.ReadyLocked page (latest ∷ history)
a_locked_port_is_decided port history old new latest page led happens settles changes =
    settles_written port history old new latest (rest.ReadyLocked page) led happens settles changes

pub an_empty_port_is_decided : (port : ℕ) (history : List Happening) (old new : PortValue) (latest : Happening) (page : PageValue)
    → HasLed port history old
    → Happens old latest new → new.stage ≡ Settled (rest.ReadyEmpty page) → (status_of old.stage ≡ status_of new.stage → ⊥)
    → IsSoDecided decision.ReadyEmpty page (latest ∷ history)
an_empty_port_is_decided port history old new latest page led happens settles changes =
    settles_written port history old new latest (rest.ReadyEmpty page) led happens settles changes
