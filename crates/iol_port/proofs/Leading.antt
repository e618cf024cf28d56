-- Whatever happens to a machine leaves what holds at its stage.
use Rattle.std.proofs.Common.{◌≡◌, ℕ, Bool, true, false, if◌then◌else◌, List, [], ◌∷◌, refl, sym, ap, ◌∙◌, subst}
use Rattle.std.specs.Prelude.{Option, Result}
use Rattle.iol_types.specs.Config.{is_manual}
use Rattle.iol_link.specs.Reading.{answer_of}
use Rattle.iol_link.specs.declared.messages.Answer.{Answer}
use Rattle.iol_link.specs.declared.faults.IsduFault.{IsduFault}
use Rattle.iol_link.specs.Page.{page_of}
use Rattle.arrayvec.specs.ArrayVec.{ArrayVec}
use Rattle.iol_port.specs.Answers.{RunsOut}
use Rattle.iol_port.proofs.Keeping.{IsAtHand}
use Rattle.iol_port.specs.Heard.{IsFed, fed, moved, at_stage}
use Rattle.iol_port.specs.History.{ComesOf, Happening, Raised, Did, Happens, HasLed, is_at_hand}
use Rattle.iol_port.specs.Stage.{Stage, Settled, Paging, Attending, BeginningUpload, BeginningDownload, Exchanging, Uploading, Filing}
use Rattle.iol_port.specs.Stage.{machine_at}
use Rattle.iol_port.specs.Stage.{Filed, Storing, Downloading, Breaking, Returning, Returned, PortValue, IsStage, Next, To, Start}
use Rattle.iol_port.specs.Wanted.{ThePage, ReplyTo, wanted, after_action}
use Rattle.iol_port.specs.declared.action.Input.{Input}
use Rattle.iol_port.specs.declared.action.Input.TheVariants as input
use Rattle.iol_port.specs.declared.call.Reply.TheVariants as reply
use Rattle.iol_port.specs.declared.stage.Rest.TheVariants as rest
use Rattle.iol_port.specs.declared.stage.PageFor.TheVariants as page_for
use Rattle.iol_port.specs.declared.stage.Held.TheVariants as held
use Rattle.iol_port.specs.Heard.{page_heard, paged, attended, replied}
use Rattle.iol_port.proofs.Keeping.{happens_hand}
use Rattle.iol_port.specs.Calls.{Attend}
use Rattle.iol_port.proofs.Stages.{StageIs, raised_is}
use Rattle.iol_port.proofs.Examining.{exchanged_told}
use Rattle.iol_port.proofs.Telling.{NextIs, upload_told, download_told, page_told, attended_told, begun_told}
use Rattle.iol_port.proofs.Telling.{download_begun_told, finished_told, ticket_told_is}
use Rattle.iol_port.proofs.Feeding.{fed_is}

moved_is : (port : ℕ) (value : PortValue) (next : Next) (history : List Happening) → NextIs port history next
    → StageIs port history (moved value next).stage
moved_is port value (To stage) history is = is
moved_is port value (Start work) history is = by (is_manual work.config.mode)
  where
    by : (test : Bool) → StageIs port history (if test then Paging (page_for.Identifying work) else Settled rest.Off)
    by true = is
    by false = tt

-- any outcome of what was wanted
comes_told : (port : ℕ) (started : Option ℕ) (requested : Bool) (stage : Stage) (heard : Input) (before : List Happening)
    → StageIs port before stage → IsAtHand stage
    → ComesOf (wanted port stage) heard
    → IsStage (fed (machine_at port started requested (after_action stage)) heard).stage
    → StageIs port (Did (wanted port stage) heard ∷ before)
    (fed (machine_at port started requested (after_action stage)) heard).stage
comes_told port started requested (Settled own) input.Wake before is hand comes good = tt
comes_told port started requested (Settled own) heard before is hand comes good = absurd comes
comes_told port started requested (Paging what) (input.Page connection octets) before is hand comes good =
    moved_is port (machine_at port started requested (Paging what)) (page_heard what connection (page_of octets))
    (Did ThePage (input.Page connection octets) ∷ before) (page_told port what connection octets before is)
comes_told port started requested (Paging what) input.Lost before is hand comes good = tt
comes_told port started requested (Paging what) heard before is hand comes good = absurd comes
comes_told port started requested (Attending what) (input.Reply (reply.Attended work)) before is hand comes good =
    moved_is port (machine_at port started requested (Attending what)) (attended started requested what work)
    (Did (ReplyTo (Attend port)) (input.Reply (reply.Attended work)) ∷ before) (attended_told port started requested what work before is)
comes_told port started requested (Attending what) heard before is hand comes good = absurd comes
comes_told port started requested (BeginningUpload found) (input.Reply (reply.BegunUpload begins)) before is hand comes good =
    begun_told port found begins before comes
comes_told port started requested (BeginningUpload found) heard before is hand comes good = absurd comes
comes_told port started requested (BeginningDownload found checksum) (input.Reply (reply.BegunDownload begins)) before is hand comes good =
    download_begun_told port found checksum begins before comes
comes_told port started requested (BeginningDownload found checksum) heard before is hand comes good = absurd comes
comes_told port started requested (Exchanging what) (input.Octets octets) before is hand comes good =
    exchanged_told port what before octets is
comes_told port started requested (Exchanging what) input.Lost before is hand comes good = tt
comes_told port started requested (Exchanging what) heard before is hand comes good = absurd comes
comes_told port started requested (Uploading grant page upload) (input.Octets octets) before is hand comes good =
    upload_told port grant page upload before octets (answer_of octets.items) is refl good
comes_told port started requested (Uploading grant page upload) input.Lost before is hand comes good = tt
comes_told port started requested (Uploading grant page upload) heard before is hand comes good = absurd comes
comes_told port started requested (Filing grant page set) (input.Reply (reply.FinishedUpload finished)) before is hand comes good =
    finished_told port grant page set finished before is comes
comes_told port started requested (Filing grant page set) heard before is hand comes good = absurd comes
comes_told port started requested (Filed page) heard before is hand comes good = absurd cc
comes_told port started requested (Storing number page) (input.Reply (reply.Ticket state)) before is hand comes good =
    ticket_told_is port number page state before is
comes_told port started requested (Storing number page) heard before is hand comes good = absurd comes
comes_told port started requested (Downloading permit page download) (input.Octets octets) before is hand comes good =
    download_told port permit page download before octets (answer_of octets.items) is refl
comes_told port started requested (Downloading permit page download) input.Lost before is hand comes good = tt
comes_told port started requested (Downloading permit page download) heard before is hand comes good = absurd comes
comes_told port started requested (Breaking holder why) (input.Octets octets) before is hand comes good = tt
comes_told port started requested (Breaking holder why) input.Lost before is hand comes good = tt
comes_told port started requested (Breaking holder why) heard before is hand comes good = absurd comes
comes_told port started requested (Returning (held.Upload permit) own) (input.Reply reply.AbandonedUpload) before is hand comes good = tt
comes_told port started requested (Returning (held.Upload permit) own) heard before is hand comes good = absurd comes
comes_told port started requested (Returning (held.Download permit) own) (input.Reply reply.EndedDownload) before is hand comes good = tt
comes_told port started requested (Returning (held.Download permit) own) heard before is hand comes good = absurd comes
comes_told port started requested (Returned transfer own) heard before is hand comes good = absurd cc

-- the port of a machine stays
moved_port : (value : PortValue) (next : Next) → (moved value next).port ≡ value.port
moved_port value (To stage) = refl
moved_port value (Start work) = refl

pub fed_port : (value : PortValue) (heard : Input) → (fed value heard).port ≡ value.port
fed_port value input.Wake = refl
fed_port value (input.Event code) = refl
fed_port value (input.Page connection octets) = moved_port value (paged value.stage connection (page_of octets))
fed_port value (input.Octets octets) = refl
fed_port value input.Lost = refl
fed_port value (input.Reply heard) = moved_port value (replied value.started_revision value.upload_requested value.stage heard)

runs_out_is : (port : ℕ) (stage : Stage) (heard : Result Answer IsduFault) (new : Stage) (history : List Happening)
    → RunsOut stage heard new
    → StageIs port history new
runs_out_is port (Uploading grant page upload) heard new history out = subst (StageIs port history) (sym out.1) tt
runs_out_is port stage heard new history out = absurd out

-- what holds of a machine, by its history: it is that of this port, no permit is with the core, and what holds at its stage
pub record IsLed (port : ℕ) (history : List Happening) (value : PortValue) : Type 0 where
  pub port_is : value.port ≡ port
  pub hand : IsAtHand value.stage
  pub stage : StageIs port history value.stage

did_is : (port : ℕ) (before : List Happening) (old new : PortValue) (heard : Input) → IsLed port before old
    → ComesOf (wanted old.port old.stage) heard
    → IsFed (at_stage old (after_action old.stage)) heard new → IsStage new.stage
    → (new.port ≡ port) × StageIs port (Did (wanted old.port old.stage) heard ∷ before) new.stage
did_is port before old new heard led comes is good =
    fed_is (λ value. IsStage value.stage → (value.port ≡ port)
    × StageIs port history value.stage) (at_stage old (after_action old.stage)) new heard is
    whole out good
  where
    history : List Happening
    history = Did (wanted old.port old.stage) heard ∷ before

    after : PortValue
    after = fed (at_stage old (after_action old.stage)) heard

    here : StageIs old.port before old.stage
    here = subst (λ p. StageIs p before old.stage) (sym led.port_is) led.stage

    whole : IsStage after.stage → (after.port ≡ port) × StageIs port history after.stage
    whole fits = (
      fed_port (at_stage old (after_action old.stage)) heard ∙ led.port_is,
      subst (λ p. StageIs p history after.stage) led.port_is
          (comes_told old.port old.started_revision old.upload_requested old.stage heard before here led.hand comes fits),
    )

    out : (octets : ArrayVec ℕ) (stage : Stage) → RunsOut (after_action old.stage) (answer_of octets.items) stage
        → IsStage stage → (old.port ≡ port) × StageIs port history stage
    out octets stage runs fits = (led.port_is, runs_out_is port (after_action old.stage) (answer_of octets.items) stage history runs)

happens_is : (port : ℕ) (before : List Happening) (old new : PortValue) (latest : Happening) → IsLed port before old
    → Happens old latest new
    → (new.port ≡ port) × StageIs port (latest ∷ before) new.stage
happens_is port before old new (Raised code) led is = (
  ap (λ (value : PortValue). value.port) is ∙ led.port_is,
  subst (λ (value : PortValue). StageIs port (Raised code ∷ before) value.stage) (sym is) (raised_is port before code old.stage led.stage),
)
happens_is port before old new (Did wants heard) led is =
    let both = did_is port before old new heard led (subst (λ w. ComesOf w heard) is.0 is.1) is.2 is.3 in
    (both.0, subst (λ w. StageIs port (Did w heard ∷ before) new.stage) (sym is.0) both.1)

-- the whole history
pub led_is : (port : ℕ) (history : List Happening) (last : PortValue) → HasLed port history last → IsLed port history last
led_is port [] last is = record {
  port_is = ap (λ (value : PortValue). value.port) is;
  hand = ap (λ (value : PortValue). is_at_hand value.stage) is;
  stage = subst (λ (value : PortValue). StageIs port [] value.stage) (sym is) tt;
}
led_is port (latest ∷ before) last (old, led, is) =
    let first = led_is port before old led in
    let next = happens_is port before old last latest first is in
    record { port_is = next.0; hand = happens_hand old last latest first.hand is; stage = next.1 }
