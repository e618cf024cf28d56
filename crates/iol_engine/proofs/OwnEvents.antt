-- A step of a port has no events of another port, and a client's command has none of any port.
use Rattle.std.proofs.Common.{◌≡◌, refl, inl, inr, ℕ, nat_eq, Bool, false, if◌then◌else◌, List, [], ◌∷◌, ◌++◌, Option, Some, None, Result}
use Rattle.std.proofs.Common.{Ok, Err, ap, sym, ◌∙◌, subst}
use Rattle.iol_types.specs.Command.{command_of}
use Rattle.iol_types.specs.DataSet.{SetValue}
use Rattle.iol_types.specs.declared.command.Change.{Change}
use Rattle.iol_types.specs.declared.command.Change.TheVariants as change
use Rattle.iol_core.specs.Core.{CoreView}
use Rattle.iol_core.specs.Uploads.{store_of}
use Rattle.iol_core.specs.declared.permit.UploadGrant.{UploadGrant}
use Rattle.iol_core.specs.declared.port.Work.{Work}
use Rattle.iol_core.specs.declared.ticket.SubmitFault.{SubmitFault}
use Rattle.iol_core.specs.declared.upload.FinishFault.{FinishFault}
use Rattle.iol_link.specs.Link.{LinkCall, LinkAnswer}
use Rattle.iol_port.specs.Calls.{Call, Attend, BeginUpload, FinishUpload, AbandonUpload, AskTicket, BeginDownload, EndDownload}
use Rattle.iol_port.specs.Stage.{PortValue}
use Rattle.iol_port.specs.Wanted.{Wanted, Nothing, ThePage, AnswerTo, ReplyTo}
use Rattle.iol_port.specs.declared.action.Input.{Input}
use Rattle.iol_port.specs.declared.action.Input.TheVariants as input
use Rattle.iol_port.specs.declared.call.Reply.{Reply}
use Rattle.iol_port.specs.declared.call.Reply.TheVariants as reply
use Rattle.iol_core.proofs.Own.{own-append}
use Rattle.iol_core.specs.Events.{Event, stamped}
use Rattle.iol_core.specs.Own.{at_port, own, own_in}
use Rattle.iol_engine.proofs.Histories.{Led, acting_led, filed_port}
use Rattle.iol_engine.proofs.Machines.{awake_port, port_stays}
use Rattle.iol_engine.proofs.Quiet.{stamped_both}
use Rattle.iol_engine.specs.PortSteps.{Hears, HearsCore, IsStatusTold, PortStep, awake, reply_told, attended_told, filed_told, store_in}
use Rattle.iol_engine.specs.Submitted.{submit_told}

-- an event of another port is not this port's own
not_own : {A : Type 0} (q port : ℕ) (it : A) → nat_eq port q ≡ false → at_port q port it ≡ []
not_own q port it apart = ap (λ (same : Bool). if same then it ∷ [] else []) apart

module _ (q t : ℕ) where
  one_event : (told : List Event) (e : Event) → told ≡ e ∷ [] → own_in q e ≡ [] → own q (stamped t told) ≡ []
  one_event told e is none = ap (λ (es : List Event). own q (stamped t es)) is ∙ ap (λ (es : List Event). es ++ []) none

  -- a client's command is no port's own
  pub submit_own : (asked : Change) (answer : Result ℕ SubmitFault) → own q (stamped t (submit_told (command_of asked) answer)) ≡ []
  submit_own (change.Configure port config) (Ok n) = refl
  submit_own (change.Clear port) (Ok n) = refl
  submit_own (change.Rollback port) (Ok n) = refl
  submit_own asked (Err f) = refl

  module _ (port : ℕ) (apart : nat_eq port q ≡ false) where
    attended_own : (work : Option Work) → own q (stamped t (attended_told port work)) ≡ []
    attended_own None = refl
    attended_own (Some work) = one_event (attended_told port (Some work)) _ refl (not_own q port _ apart)

    filed_own : (grant : UploadGrant) (set : SetValue) (answer : Result ℕ FinishFault) → grant.port ≡ port
        → own q (stamped t (filed_told (Some (store_of grant set)) answer)) ≡ []
    filed_own grant set (Ok n) same =
        one_event (filed_told (Some (store_of grant set)) (Ok n)) _ refl (not_own q grant.port _ (ap (λ (p : ℕ). nat_eq p q) same ∙ apart))
    filed_own grant set (Err f) same = refl

    no_store : (answer : Result ℕ FinishFault) → own q (stamped t (filed_told None answer)) ≡ []
    no_store (Ok n) = refl
    no_store (Err f) = refl

    reply_own : (call : Call) (heard : Reply) → ((grant : UploadGrant) (set : SetValue) → call ≡ FinishUpload grant set → grant.port ≡ port)
        → own q (stamped t (reply_told port (store_in call) heard)) ≡ []
    reply_own call (reply.Attended work) files = attended_own work
    reply_own call (reply.BegunUpload begun) files = refl
    reply_own (FinishUpload grant set) (reply.FinishedUpload finished) files = filed_own grant set finished (files grant set refl)
    reply_own (Attend p) (reply.FinishedUpload finished) files = no_store finished
    reply_own (BeginUpload p v d c) (reply.FinishedUpload finished) files = no_store finished
    reply_own (AbandonUpload grant) (reply.FinishedUpload finished) files = no_store finished
    reply_own (AskTicket ticket) (reply.FinishedUpload finished) files = no_store finished
    reply_own (BeginDownload p v d c) (reply.FinishedUpload finished) files = no_store finished
    reply_own (EndDownload p) (reply.FinishedUpload finished) files = no_store finished
    reply_own call reply.AbandonedUpload files = refl
    reply_own call (reply.Ticket state) files = refl
    reply_own call (reply.BegunDownload begun) files = refl
    reply_own call reply.EndedDownload files = refl

    core_own : (call : Call) (heard : Input) (old new : CoreView) (told : List Event)
        → ((grant : UploadGrant) (set : SetValue) → call ≡ FinishUpload grant set → grant.port ≡ port)
        → HearsCore port call heard old new told
        → own q (stamped t told) ≡ []
    core_own call (input.Reply heard) old new told files is =
        ap (λ (es : List Event). own q (stamped t es)) is.1 ∙ reply_own call heard files
    core_own call input.Wake old new told files is = absurd is
    core_own call (input.Event c) old new told files is = absurd is
    core_own call (input.Page c os) old new told files is = absurd is
    core_own call (input.Octets os) old new told files is = absurd is
    core_own call input.Lost old new told files is = absurd is

    module _ {L : Type 0} (number : L → ℕ) (steps : L → LinkCall → LinkAnswer → L → Type 0) where
      hears_own : (wants : Wanted) (heard : Input) (link last : L) (old new : CoreView) (told : List Event)
          → ((grant : UploadGrant) (set : SetValue) → wants ≡ ReplyTo (FinishUpload grant set) → grant.port ≡ port)
          → Hears number steps port wants heard link last old new told → own q (stamped t told) ≡ []
      hears_own Nothing heard link last old new told files is = absurd is
      hears_own ThePage (input.Page c os) link last old new told files is = one_event told _ is.0.3 (not_own q port _ apart)
      hears_own ThePage input.Lost link last old new told files is = one_event told _ is.0.2 (not_own q port _ apart)
      hears_own ThePage input.Wake link last old new told files is = absurd is.0
      hears_own ThePage (input.Event c) link last old new told files is = absurd is.0
      hears_own ThePage (input.Octets os) link last old new told files is = absurd is.0
      hears_own ThePage (input.Reply r) link last old new told files is = absurd is.0
      hears_own (AnswerTo request) (input.Octets os) link last old new told files is = one_event told _ is.0.2.2 (not_own q port _ apart)
      hears_own (AnswerTo request) input.Lost link last old new told files is = one_event told _ is.0.2.2 (not_own q port _ apart)
      hears_own (AnswerTo request) input.Wake link last old new told files is = absurd is.0.2
      hears_own (AnswerTo request) (input.Event c) link last old new told files is = absurd is.0.2
      hears_own (AnswerTo request) (input.Page c os) link last old new told files is = absurd is.0.2
      hears_own (AnswerTo request) (input.Reply r) link last old new told files is = absurd is.0.2
      hears_own (ReplyTo call) heard link last old new told files is =
          core_own call heard old new told (λ grant set same. files grant set (ap ReplyTo same)) is.0

  status_own : (old new : PortValue) (told : List Event) → nat_eq new.port q ≡ false → IsStatusTold old new told → own q (stamped t told)
      ≡ []
  status_own old new told apart (inl is) = ap (λ (es : List Event). own q (stamped t es)) is.0
  status_own old new told apart (inr is) = one_event told _ is.0 (not_own q new.port _ apart)

  -- a step of another port
  pub step_own : {L : Type 0} (number : L → ℕ) (steps : L → LinkCall → LinkAnswer → L → Type 0) (port : ℕ) (before after : PortValue)
      (link last : L)
      (old new : CoreView) (called status : List Event) → before.port ≡ port → nat_eq port q ≡ false → Led port before
      → PortStep number steps before after link last old new called status → own q (stamped t (called ++ status)) ≡ []
  step_own number steps port before after link last old new called status at apart led is =
      ap (own q) (stamped_both t called status)
      ∙ (own-append q (stamped t called) (stamped t status)
      ∙ (ap (λ (es : List Event). es ++ own q (stamped t status)) called_own
      ∙ status_own before after status
      (ap (λ (p : ℕ). nat_eq p q) (port_stays number steps before after link last old new called status is ∙ at) ∙ apart) is.told))
    where
      acting : Led port (awake is.noted_value)
      acting = acting_led number steps port before after link last old new called status led is

      acts_at : (awake is.noted_value).port ≡ port
      acts_at = awake_port number steps before is.noted_value link is.mid is.hears_event ∙ at

      files : (grant : UploadGrant) (set : SetValue) → is.acts.wants ≡ ReplyTo (FinishUpload grant set) → grant.port ≡ port
      files grant set same = filed_port port acting.0 (awake is.noted_value) grant set acting.1 (sym is.acts.did.0 ∙ same)

      called_own : own q (stamped t called) ≡ []
      called_own =
          hears_own port apart number steps is.acts.wants is.acts.heard is.mid last old new called files
          (subst (λ (p : ℕ). Hears number steps p is.acts.wants is.acts.heard is.mid last old new called) acts_at is.acts.hears)
