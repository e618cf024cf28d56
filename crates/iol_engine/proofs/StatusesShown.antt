-- The status of a machine is the one that was reported last.
use Rattle.std.proofs.Common.{◌≡◌, refl, inl, inr, ℕ, nat_eq, Bool, true, false, if◌then◌else◌, List, [], ◌∷◌, ◌++◌, Option, Some, None}
use Rattle.std.proofs.Common.{Result, Ok, Err, ap, sym, ◌∙◌}
use Rattle.std.proofs.lemmas.Bool.{eq-eqb}
use Rattle.std.proofs.lemmas.List.Sums.{fold-append}
use Rattle.iol_types.specs.Command.{CommandValue, Configure, Clear, Store, Rollback}
use Rattle.iol_core.specs.Core.{CoreView}
use Rattle.iol_core.specs.declared.port.Work.{Work}
use Rattle.iol_core.specs.declared.upload.FinishFault.{FinishFault}
use Rattle.iol_link.specs.Link.{LinkCall, LinkAnswer}
use Rattle.iol_port.specs.Calls.{Call}
use Rattle.iol_port.specs.Stage.{PortValue}
use Rattle.iol_port.specs.Status.{status_of}
use Rattle.iol_port.specs.Telling.{status_told}
use Rattle.iol_port.specs.Wanted.{Wanted, Nothing, ThePage, AnswerTo, ReplyTo}
use Rattle.iol_port.specs.declared.action.Input.{Input}
use Rattle.iol_port.specs.declared.action.Input.TheVariants as input
use Rattle.iol_port.specs.declared.call.Reply.{Reply}
use Rattle.iol_port.specs.declared.call.Reply.TheVariants as reply
use Rattle.iol_core.proofs.Own.{own-append}
use Rattle.iol_core.specs.Events.{Event, Accepted, Changed, Stamp, stamped}
use Rattle.iol_core.specs.Own.{own, own_in, status_by, status_after}
use Rattle.iol_core.specs.Statuses.{Status}
use Rattle.iol_engine.proofs.Quiet.{stamped_both}
use Rattle.iol_engine.specs.PortSteps.{Hears, HearsCore, IsStatusTold, PortStep, reply_told, attended_told, filed_told, store_in}

-- of more events the last status counts
pub status-append : (was : Status) (events more : List Event) → status_after was (events ++ more)
    ≡ status_after (status_after was events) more
status-append was events more = fold-append (λ (s : Status) (e : Event). status_by s e) was events more

module _ (q t : ℕ) where
  -- an event that reports no status
  kept : (same : Bool) (was : Status) (e : Event) → status_by was e ≡ was → status_after was (if same then e ∷ [] else []) ≡ was
  kept true was e keeps = keeps
  kept false was e keeps = refl

  own_kept : (was : Status) (e : Event) (told : List Event) → told ≡ e ∷ [] → status_after was (own_in q e) ≡ was
      → status_after was (own q (stamped t told)) ≡ was
  own_kept was e told is keeps =
      ap (λ (es : List Event). status_after was (own q (stamped t es))) is
      ∙ (status-append was (own_in q e) [] ∙ keeps)

  accepted_kept : (was : Status) (n : ℕ) (command : CommandValue) → status_after was (own_in q (Accepted n command)) ≡ was
  accepted_kept was n (Configure p c) = refl
  accepted_kept was n (Clear p) = refl
  accepted_kept was n (Rollback p) = refl
  accepted_kept was n (Store p r s) = kept (nat_eq p q) was (Accepted n (Store p r s)) refl

  filed_kept : (was : Status) (command : Option CommandValue) (answer : Result ℕ FinishFault)
      → status_after was (own q (stamped t (filed_told command answer))) ≡ was
  filed_kept was None (Ok n) = refl
  filed_kept was (Some command) (Ok n) = own_kept was (Accepted n command) _ refl (accepted_kept was n command)
  filed_kept was command (Err f) = refl

  attended_kept : (was : Status) (port : ℕ) (work : Option Work) → status_after was (own q (stamped t (attended_told port work))) ≡ was
  attended_kept was port None = refl
  attended_kept was port (Some work) = own_kept was _ (attended_told port (Some work)) refl (kept (nat_eq port q) was _ refl)

  reply_kept : (was : Status) (port : ℕ) (command : Option CommandValue) (heard : Reply)
      → status_after was (own q (stamped t (reply_told port command heard))) ≡ was
  reply_kept was port command (reply.Attended work) = attended_kept was port work
  reply_kept was port command (reply.BegunUpload begun) = refl
  reply_kept was port command (reply.FinishedUpload finished) = filed_kept was command finished
  reply_kept was port command reply.AbandonedUpload = refl
  reply_kept was port command (reply.Ticket state) = refl
  reply_kept was port command (reply.BegunDownload begun) = refl
  reply_kept was port command reply.EndedDownload = refl

  core_kept : (was : Status) (port : ℕ) (call : Call) (heard : Input) (old new : CoreView) (told : List Event)
      → HearsCore port call heard old new told
      → status_after was (own q (stamped t told)) ≡ was
  core_kept was port call (input.Reply heard) old new told is =
      ap (λ (es : List Event). status_after was (own q (stamped t es))) is.1 ∙ reply_kept was port (store_in call) heard
  core_kept was port call input.Wake old new told is = absurd is
  core_kept was port call (input.Event c) old new told is = absurd is
  core_kept was port call (input.Page c os) old new told is = absurd is
  core_kept was port call (input.Octets os) old new told is = absurd is
  core_kept was port call input.Lost old new told is = absurd is

  module _ {L : Type 0} (number : L → ℕ) (steps : L → LinkCall → LinkAnswer → L → Type 0) where
    hears_kept : (was : Status) (port : ℕ) (wants : Wanted) (heard : Input) (link last : L) (old new : CoreView) (told : List Event)
        → Hears number steps port wants heard link last old new told → status_after was (own q (stamped t told)) ≡ was
    hears_kept was port Nothing heard link last old new told is = absurd is
    hears_kept was port ThePage (input.Page c os) link last old new told is = own_kept was _ told is.0.3 (kept (nat_eq port q) was _ refl)
    hears_kept was port ThePage input.Lost link last old new told is = own_kept was _ told is.0.2 (kept (nat_eq port q) was _ refl)
    hears_kept was port ThePage input.Wake link last old new told is = absurd is.0
    hears_kept was port ThePage (input.Event c) link last old new told is = absurd is.0
    hears_kept was port ThePage (input.Octets os) link last old new told is = absurd is.0
    hears_kept was port ThePage (input.Reply r) link last old new told is = absurd is.0
    hears_kept was port (AnswerTo request) (input.Octets os) link last old new told is =
        own_kept was _ told is.0.2.2 (kept (nat_eq port q) was _ refl)
    hears_kept was port (AnswerTo request) input.Lost link last old new told is =
        own_kept was _ told is.0.2.2 (kept (nat_eq port q) was _ refl)
    hears_kept was port (AnswerTo request) input.Wake link last old new told is = absurd is.0.2
    hears_kept was port (AnswerTo request) (input.Event c) link last old new told is = absurd is.0.2
    hears_kept was port (AnswerTo request) (input.Page c os) link last old new told is = absurd is.0.2
    hears_kept was port (AnswerTo request) (input.Reply r) link last old new told is = absurd is.0.2
    hears_kept was port (ReplyTo call) heard link last old new told is = core_kept was port call heard old new told is.0

  -- a status that is reported
  told_status : (was : Status) (port : ℕ) (status : Status) → nat_eq port q ≡ true
      → status_after was (own q (stamped t (Changed port status ∷ []))) ≡ status
  told_status was port status at = ap (λ (same : Bool). status_after was ((if same then Changed port status ∷ [] else []) ++ [])) at

  status_kept : (was : Status) (old new : PortValue) (told : List Event) → was ≡ status_told (status_of old.stage) → new.port ≡ q
      → IsStatusTold old new told
      → status_after was (own q (stamped t told)) ≡ status_told (status_of new.stage)
  status_kept was old new told shown at (inl is) =
      ap (λ (es : List Event). status_after was (own q (stamped t es))) is.0 ∙ (shown ∙ ap status_told (sym is.1))
  status_kept was old new told shown at (inr is) =
      ap (λ (es : List Event). status_after was (own q (stamped t es))) is.0
      ∙ told_status was new.port (status_told (status_of new.stage)) (eq-eqb new.port q at)

  -- the events of a step show the status after it
  pub step_status : {L : Type 0} (number : L → ℕ) (steps : L → LinkCall → LinkAnswer → L → Type 0) (was : Status) (before after : PortValue)
      (link last : L)
      (old new : CoreView) (called status : List Event) → was ≡ status_told (status_of before.stage) → after.port ≡ q
      → PortStep number steps before after link last old new called status
      → status_after was (own q (stamped t (called ++ status))) ≡ status_told (status_of after.stage)
  step_status number steps was before after link last old new called status shown at is =
      ap (λ (ss : List Stamp). status_after was (own q ss)) (stamped_both t called status)
      ∙ (ap (status_after was) (own-append q (stamped t called) (stamped t status))
      ∙ (status-append was (own q (stamped t called)) (own q (stamped t status))
      ∙ (ap (λ (s : Status). status_after s (own q (stamped t status)))
      (hears_kept number steps was _ is.acts.wants is.acts.heard is.mid last old new called is.acts.hears)
      ∙ status_kept was before after status shown at is.told)))
