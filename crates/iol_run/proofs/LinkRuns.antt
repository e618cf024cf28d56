-- The events of a step of a port are a run of its link, and of no other.
use Rattle.std.proofs.Common.{◌≡◌, refl, inl, inr, ℕ, nat_eq, Bool, true, false, if◌then◌else◌, List, [], ◌∷◌, ◌++◌, Option, Some, None}
use Rattle.std.proofs.Common.{Result, Ok, Err, ap, sym, ◌∙◌, subst}
use Rattle.iol_types.specs.Command.{CommandValue}
use Rattle.iol_core.specs.Core.{CoreView}
use Rattle.iol_core.specs.declared.port.Work.{Work}
use Rattle.iol_core.specs.declared.upload.FinishFault.{FinishFault}
use Rattle.iol_link.specs.Link.{LinkCall, LinkAnswer, TakeEvent, Answered, event_answer}
use Rattle.iol_link.specs.Link as link
use Rattle.iol_port.specs.Calls.{Call}
use Rattle.iol_port.specs.Stage.{PortValue}
use Rattle.iol_port.specs.Wanted.{Wanted, Nothing, ThePage, AnswerTo, ReplyTo}
use Rattle.iol_port.specs.declared.action.Input.{Input}
use Rattle.iol_port.specs.declared.action.Input.TheVariants as input
use Rattle.iol_port.specs.declared.call.Reply.{Reply}
use Rattle.iol_port.specs.declared.call.Reply.TheVariants as reply
use Rattle.iol_core.proofs.Links.{joined, calls-append}
use Rattle.iol_core.specs.Events.{Event, Stamp, stamped}
use Rattle.iol_core.specs.Links.{IsLinkRun, call_told, calls_told, if_told}
use Rattle.iol_core.specs.Own.{at_port}
use Rattle.iol_engine.proofs.Machines.{awake_port}
use Rattle.iol_engine.proofs.Quiet.{stamped_both}
use Rattle.iol_engine.specs.PortSteps.{Hears, HearsCore, HasEvent, IsStatusTold, PortStep, reply_told, attended_told, filed_told}
use Rattle.iol_engine.specs.PortSteps.{accepted_told, store_in}

module _ (q t : ℕ) where
  -- the core's replies have no events of a link
  accepted_calls : (n : ℕ) (command : Option CommandValue) → calls_told q (stamped t (accepted_told n command)) ≡ []
  accepted_calls n None = refl
  accepted_calls n (Some c) = refl

  filed_calls : (command : Option CommandValue) (answer : Result ℕ FinishFault) → calls_told q (stamped t (filed_told command answer)) ≡ []
  filed_calls command (Ok n) = accepted_calls n command
  filed_calls command (Err f) = refl

  attended_calls : (port : ℕ) (work : Option Work) → calls_told q (stamped t (attended_told port work)) ≡ []
  attended_calls port None = refl
  attended_calls port (Some w) = refl

  reply_calls : (port : ℕ) (command : Option CommandValue) (heard : Reply) → calls_told q (stamped t (reply_told port command heard)) ≡ []
  reply_calls port command (reply.Attended w) = attended_calls port w
  reply_calls port command (reply.BegunUpload b) = refl
  reply_calls port command (reply.FinishedUpload f) = filed_calls command f
  reply_calls port command reply.AbandonedUpload = refl
  reply_calls port command (reply.Ticket k) = refl
  reply_calls port command (reply.BegunDownload b) = refl
  reply_calls port command reply.EndedDownload = refl

  core_calls : (port : ℕ) (call : Call) (heard : Input) (old new : CoreView) (told : List Event) → HearsCore port call heard old new told
      → calls_told q (stamped t told) ≡ []
  core_calls port call (input.Reply heard) old new told is =
      ap (λ (es : List Event). calls_told q (stamped t es)) is.1 ∙ reply_calls port (store_in call) heard
  core_calls port call input.Wake old new told is = absurd is
  core_calls port call (input.Event c) old new told is = absurd is
  core_calls port call (input.Page c os) old new told is = absurd is
  core_calls port call (input.Octets os) old new told is = absurd is
  core_calls port call input.Lost old new told is = absurd is

  -- a status has no events of a link
  status_calls : (old new : PortValue) (told : List Event) → IsStatusTold old new told → calls_told q (stamped t told) ≡ []
  status_calls old new told (inl is) = ap (λ (es : List Event). calls_told q (stamped t es)) is.0
  status_calls old new told (inr is) = ap (λ (es : List Event). calls_told q (stamped t es)) is.0

module _ {L : Type 0} (connection : L → ℕ) (allows : L → LinkCall → LinkAnswer → L → Type 0) where
  -- the events of a link: a run of it if the port is this one, and otherwise none
  abbrev pub TellsLink : Bool → ℕ → List Stamp → L → L → Type 0
  TellsLink true q events first last = IsLinkRun connection allows q events first last
  TellsLink false q events first last = calls_told q events ≡ []

  module _ (q t : ℕ) where
    one_call : (same : Bool) (port : ℕ) → nat_eq port q ≡ same → (made : Answered) (told : List Event) (e : Event) (first last : L) → told
        ≡ e ∷ []
        → call_told q e ≡ at_port q port made → if_told made.call made ≡ made ∷ [] → made.connection ≡ connection first
        → allows first made.call made.answer last → TellsLink same q (stamped t told) first last
    one_call true port is made told e first last one here counts at allowed = record {
      made = made ∷ [];
      run = (last, at, allowed, refl);
      told =
          ap (λ (cs : List Answered). cs ++ []) counts
          ∙ sym (ap (λ (es : List Event). calls_told q (stamped t es)) one
          ∙ ap (λ (cs : List Answered). cs ++ []) (here ∙ ap (λ (b : Bool). if b then made ∷ [] else []) is));
    }
    one_call false port is made told e first last one here counts at allowed =
        ap (λ (es : List Event). calls_told q (stamped t es)) one
        ∙ ap (λ (cs : List Answered). cs ++ []) (here ∙ ap (λ (b : Bool). if b then made ∷ [] else []) is)

    no_call : (same : Bool) (told : List Event) (first last : L) → calls_told q (stamped t told) ≡ [] → last ≡ first
        → TellsLink same q (stamped t told) first last
    no_call true told first last none stays = record { made = []; run = sym stays; told = sym none }
    no_call false told first last none stays = none

    hears_link : (same : Bool) (port : ℕ) → nat_eq port q ≡ same
        → (wants : Wanted) (heard : Input) (first last : L) (old new : CoreView) (told : List Event)
        → Hears connection allows port wants heard first last old new told → TellsLink same q (stamped t told) first last
    hears_link same port at Nothing heard first last old new told is = absurd is
    hears_link same port at ThePage (input.Page c os) first last old new told is =
        one_call same port at (record { connection = connection first; call = link.ReadPage; answer = link.Octets os }) told _ first last
        is.0.3 refl refl refl is.0.1
    hears_link same port at ThePage input.Lost first last old new told is =
        one_call same port at (record { connection = connection first; call = link.ReadPage; answer = link.Gone }) told _ first last is.0.2
        refl refl refl is.0.0
    hears_link same port at ThePage input.Wake first last old new told is = absurd is.0
    hears_link same port at ThePage (input.Event c) first last old new told is = absurd is.0
    hears_link same port at ThePage (input.Octets os) first last old new told is = absurd is.0
    hears_link same port at ThePage (input.Reply r) first last old new told is = absurd is.0
    hears_link same port at (AnswerTo request) (input.Octets os) first last old new told is =
        one_call same port at (record { connection = connection first; call = link.Exchange is.0.0; answer = link.Octets os.items }) told _
        first last is.0.2.2 refl refl refl is.0.2.0
    hears_link same port at (AnswerTo request) input.Lost first last old new told is =
        one_call same port at (record { connection = connection first; call = link.Exchange is.0.0; answer = link.Gone }) told _ first last
        is.0.2.2 refl refl refl is.0.2.0
    hears_link same port at (AnswerTo request) input.Wake first last old new told is = absurd is.0.2
    hears_link same port at (AnswerTo request) (input.Event c) first last old new told is = absurd is.0.2
    hears_link same port at (AnswerTo request) (input.Page c os) first last old new told is = absurd is.0.2
    hears_link same port at (AnswerTo request) (input.Reply r) first last old new told is = absurd is.0.2
    hears_link same port at (ReplyTo call) heard first last old new told is =
        no_call same told first last (core_calls q t port call heard old new told is.0) is.1

    event_run : (old new : PortValue) (first last : L) → HasEvent connection allows old new first last
        → IsLinkRun connection allows q [] first last
    event_run old new first last is = record {
      made = record { connection = connection first; call = TakeEvent; answer = event_answer is.event } ∷ [];
      run = (last, refl, is.took, refl);
      told = refl;
    }

    told_both : (called status : List Event) → calls_told q (stamped t called) ≡ [] → calls_told q (stamped t status) ≡ []
        → calls_told q (stamped t (called ++ status)) ≡ []
    told_both called status one two =
        ap (calls_told q) (stamped_both t called status)
        ∙ (calls-append q (stamped t called) (stamped t status)
        ∙ (ap (λ (cs : List Answered). cs ++ calls_told q (stamped t status)) one ∙ two))

    -- the events of a step of a port are a run of its link
    pub step_link : (same : Bool) (before after : PortValue) → nat_eq before.port q ≡ same
        → (first last : L) (old new : CoreView) (called status : List Event)
        → PortStep connection allows before after first last old new called status
        → TellsLink same q (stamped t (called ++ status)) first last
    step_link true before after at first last old new called status is =
        subst (λ (ss : List Stamp). IsLinkRun connection allows q ss first last) (sym (stamped_both t called status))
        (joined connection allows q (stamped t called) (stamped t status) first last last
        (joined connection allows q [] (stamped t called) first is.mid last (event_run before is.noted_value first is.mid is.hears_event)
        (hears_link true _ (ap (λ (n : ℕ). nat_eq n q) (awake_port connection allows before is.noted_value first is.mid is.hears_event)
        ∙ at) is.acts.wants is.acts.heard is.mid last old new called is.acts.hears))
        (no_call true status last last (status_calls q t before after status is.told) refl))
    step_link false before after at first last old new called status is =
        told_both called status
        (hears_link false _ (ap (λ (n : ℕ). nat_eq n q) (awake_port connection allows before is.noted_value first is.mid is.hears_event)
        ∙ at) is.acts.wants is.acts.heard is.mid last old new called is.acts.hears)
        (status_calls q t before after status is.told)
