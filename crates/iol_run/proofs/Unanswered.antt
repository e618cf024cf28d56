-- The events of a port or the flusher answer no client.
use Rattle.std.proofs.Common.{◌≡◌, refl, inl, inr, ℕ, Bool, true, false, if◌then◌else◌, List, [], ◌∷◌, ◌++◌}
use Rattle.std.proofs.Common.{Option, Some, None, Result, Ok, Err, ap, sym, ◌∙◌, append_assoc}
use Rattle.iol_types.specs.DataSet.{SetValue}
use Rattle.iol_core.specs.Core.{CoreView}
use Rattle.iol_core.specs.Uploads.{store_of}
use Rattle.iol_core.specs.declared.permit.UploadGrant.{UploadGrant}
use Rattle.iol_core.specs.declared.port.Work.{Work}
use Rattle.iol_core.specs.declared.upload.FinishFault.{FinishFault}
use Rattle.iol_link.specs.Link.{LinkCall, LinkAnswer}
use Rattle.iol_port.specs.Calls.{Call, Attend, BeginUpload, FinishUpload, AbandonUpload, AskTicket, BeginDownload, EndDownload}
use Rattle.iol_port.specs.Stage.{PortValue}
use Rattle.iol_port.specs.Wanted.{Wanted, Nothing, ThePage, AnswerTo, ReplyTo}
use Rattle.iol_port.specs.declared.action.Input.{Input}
use Rattle.iol_port.specs.declared.action.Input.TheVariants as input
use Rattle.iol_port.specs.declared.call.Reply.{Reply}
use Rattle.iol_port.specs.declared.call.Reply.TheVariants as reply
use Rattle.iol_core.specs.Events.{Event}
use Rattle.iol_run.proofs.FlusherTells.{PassesOver}
use Rattle.iol_run.specs.Answers.{is_answer}
use Rattle.iol_run.specs.CoreOnDisk.{CoreOnDiskView}
use Rattle.iol_engine.specs.PortSteps.{attended_told, filed_told, reply_told, store_in, Hears, HearsCore, IsStatusTold}
use Rattle.iol_engine.specs.Ports.{PortsView}
use Rattle.iol_run.specs.Ports.{StepsIf}

-- the answers among events
unfoldable pub answers_in : List Event → List Event
answers_in [] = []
answers_in (e ∷ events) = (if is_answer e then e ∷ [] else []) ++ answers_in events

pub answers-append : (one two : List Event) → answers_in (one ++ two) ≡ answers_in one ++ answers_in two
unfolding answers_in
answers-append [] two = refl
answers-append (e ∷ one) two =
    ap (λ (es : List Event). (if is_answer e then e ∷ [] else []) ++ es) (answers-append one two)
    ∙ sym (append_assoc (if is_answer e then e ∷ [] else []) (answers_in one) (answers_in two))

-- the events of a port answer no client
store_answers : (grant : UploadGrant) (set : SetValue) (answer : Result ℕ FinishFault)
    → answers_in (filed_told (Some (store_of grant set)) answer) ≡ []
unfolding answers_in
store_answers grant set (Ok n) = refl
store_answers grant set (Err f) = refl

none_answers : (answer : Result ℕ FinishFault) → answers_in (filed_told None answer) ≡ []
unfolding answers_in
none_answers (Ok n) = refl
none_answers (Err f) = refl

attended_answers : (port : ℕ) (work : Option Work) → answers_in (attended_told port work) ≡ []
unfolding answers_in
attended_answers port None = refl
attended_answers port (Some work) = refl

reply_answers : (port : ℕ) (call : Call) (heard : Reply) → answers_in (reply_told port (store_in call) heard) ≡ []
unfolding answers_in
reply_answers port call (reply.Attended work) = attended_answers port work
reply_answers port call (reply.BegunUpload begun) = refl
reply_answers port (FinishUpload grant set) (reply.FinishedUpload finished) = store_answers grant set finished
reply_answers port (Attend p) (reply.FinishedUpload finished) = none_answers finished
reply_answers port (BeginUpload p v d c) (reply.FinishedUpload finished) = none_answers finished
reply_answers port (AbandonUpload grant) (reply.FinishedUpload finished) = none_answers finished
reply_answers port (AskTicket ticket) (reply.FinishedUpload finished) = none_answers finished
reply_answers port (BeginDownload p v d c) (reply.FinishedUpload finished) = none_answers finished
reply_answers port (EndDownload p) (reply.FinishedUpload finished) = none_answers finished
reply_answers port call reply.AbandonedUpload = refl
reply_answers port call (reply.Ticket state) = refl
reply_answers port call (reply.BegunDownload begun) = refl
reply_answers port call reply.EndedDownload = refl

core_answers : (port : ℕ) (call : Call) (heard : Input) (old new : CoreView) (told : List Event) → HearsCore port call heard old new told
    → answers_in told ≡ []
core_answers port call (input.Reply heard) old new told is = ap answers_in is.1 ∙ reply_answers port call heard
core_answers port call input.Wake old new told is = absurd is
core_answers port call (input.Event c) old new told is = absurd is
core_answers port call (input.Page c os) old new told is = absurd is
core_answers port call (input.Octets os) old new told is = absurd is
core_answers port call input.Lost old new told is = absurd is

one_none : (told : List Event) (e : Event) → told ≡ e ∷ [] → is_answer e ≡ false → answers_in told ≡ []
unfolding answers_in
one_none told e is none = ap answers_in is ∙ ap (λ (b : Bool). (if b then e ∷ [] else []) ++ []) none

status_answers : (old new : PortValue) (told : List Event) → IsStatusTold old new told → answers_in told ≡ []
unfolding answers_in
status_answers old new told (inl is) = ap answers_in is.0
status_answers old new told (inr is) = one_none told _ is.0 refl

module _ {L : Type 0} (number : L → ℕ) (steps : L → LinkCall → LinkAnswer → L → Type 0) where
  hears_answers : (port : ℕ) (wants : Wanted) (heard : Input) (link last : L) (old new : CoreView) (told : List Event)
      → Hears number steps port wants heard link last old new told → answers_in told ≡ []
  hears_answers port Nothing heard link last old new told is = absurd is
  hears_answers port ThePage (input.Page c os) link last old new told is = one_none told _ is.0.3 refl
  hears_answers port ThePage input.Lost link last old new told is = one_none told _ is.0.2 refl
  hears_answers port ThePage input.Wake link last old new told is = absurd is.0
  hears_answers port ThePage (input.Event c) link last old new told is = absurd is.0
  hears_answers port ThePage (input.Octets os) link last old new told is = absurd is.0
  hears_answers port ThePage (input.Reply r) link last old new told is = absurd is.0
  hears_answers port (AnswerTo request) (input.Octets os) link last old new told is = one_none told _ is.0.2.2 refl
  hears_answers port (AnswerTo request) input.Lost link last old new told is = one_none told _ is.0.2.2 refl
  hears_answers port (AnswerTo request) input.Wake link last old new told is = absurd is.0.2
  hears_answers port (AnswerTo request) (input.Event c) link last old new told is = absurd is.0.2
  hears_answers port (AnswerTo request) (input.Page c os) link last old new told is = absurd is.0.2
  hears_answers port (AnswerTo request) (input.Reply r) link last old new told is = absurd is.0.2
  hears_answers port (ReplyTo call) heard link last old new told is = core_answers port call heard old new told is.0

  pub port_answers : {D : Type 0} (there : Bool) (port : ℕ) (old new : CoreOnDiskView D) (ports last : PortsView L) (told : List Event)
      → StepsIf number steps there port old new ports last told → answers_in told ≡ []
  unfolding answers_in
  port_answers true port old new ports last told is =
      let step = is.steps_as in
      ap answers_in is.told_is
      ∙ (answers-append is.called is.status
      ∙ (ap (λ (es : List Event). es ++ answers_in is.status)
      (hears_answers _ step.acts.wants step.acts.heard step.mid is.linked old.core new.core is.called step.acts.hears)
      ∙ status_answers is.before is.after is.status step.told))
  port_answers false port old new ports last told is = ap answers_in is.2

pub flusher_answers : PassesOver answers_in
unfolding answers_in
flusher_answers = record { none = refl; acknowledged = λ n. refl; failed = refl }
