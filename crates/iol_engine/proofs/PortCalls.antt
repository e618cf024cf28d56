-- What a step of a port makes of the core, and what it reports.
use Rattle.std.proofs.Common.{◌≡◌, inl, inr, ℕ, List, [], ◌∷◌, sym, subst}
use Rattle.iol_core.specs.Core.{CoreView}
use Rattle.iol_link.specs.Link.{LinkCall, LinkAnswer}
use Rattle.iol_port.specs.Calls.{Call}
use Rattle.iol_port.specs.Stage.{PortValue}
use Rattle.iol_port.specs.Wanted.{Wanted, Nothing, ThePage, AnswerTo, ReplyTo}
use Rattle.iol_port.specs.declared.action.Input.{Input}
use Rattle.iol_port.specs.declared.action.Input.TheVariants as input
use Rattle.iol_core.specs.Events.{Event}
use Rattle.iol_engine.proofs.Changes.{Becomes, stays, replied}
use Rattle.iol_engine.proofs.Quiet.{AreQuiet}
use Rattle.iol_engine.specs.PortSteps.{Hears, HearsCore, IsStatusTold, PortStep}

status_quiet : (old new : PortValue) (told : List Event) → IsStatusTold old new told → AreQuiet told
status_quiet old new told (inl is) = subst (λ (es : List Event). AreQuiet es) (sym is.0) tt
status_quiet old new told (inr is) = subst (λ (es : List Event). AreQuiet es) (sym is.0) (tt, tt)

told_stays : (P : Type 0) (old new : CoreView) (told : List Event) (e : Event) → told ≡ e ∷ [] → AreQuiet (e ∷ []) → new ≡ old
    → Becomes P old new told
told_stays P old new told e is quiet same = stays P old new told same (subst (λ (es : List Event). AreQuiet es) (sym is) quiet)

core_hears : (port : ℕ) (call : Call) (heard : Input) (old new : CoreView) (told : List Event) → HearsCore port call heard old new told
    → Becomes ⊥ old new told
core_hears port call (input.Reply heard) old new told is =
    let becomes = replied port call old new heard is.0 in
    subst (λ (es : List Event). Becomes ⊥ old new es) (sym is.1) (record {
      change = becomes.change;
      new_is = becomes.new_is;
      passing = λ never. absurd never;
      room = becomes.room;
      tells = becomes.tells;
    })
core_hears port call input.Wake old new told is = absurd is
core_hears port call (input.Event c) old new told is = absurd is
core_hears port call (input.Page c os) old new told is = absurd is
core_hears port call (input.Octets os) old new told is = absurd is
core_hears port call input.Lost old new told is = absurd is

module _ {L : Type 0} (number : L → ℕ) (steps : L → LinkCall → LinkAnswer → L → Type 0) where
  hears_change : (port : ℕ) (wants : Wanted) (heard : Input) (link last : L) (old new : CoreView) (told : List Event)
      → Hears number steps port wants heard link last old new told → Becomes ⊥ old new told
  hears_change port Nothing heard link last old new told is = absurd is
  hears_change port ThePage (input.Page c os) link last old new told is = told_stays ⊥ old new told _ is.0.3 (tt, tt) is.1
  hears_change port ThePage input.Lost link last old new told is = told_stays ⊥ old new told _ is.0.2 (tt, tt) is.1
  hears_change port ThePage input.Wake link last old new told is = absurd is.0
  hears_change port ThePage (input.Event c) link last old new told is = absurd is.0
  hears_change port ThePage (input.Octets os) link last old new told is = absurd is.0
  hears_change port ThePage (input.Reply r) link last old new told is = absurd is.0
  hears_change port (AnswerTo request) (input.Octets os) link last old new told is = told_stays ⊥ old new told _ is.0.2.2 (tt, tt) is.1
  hears_change port (AnswerTo request) input.Lost link last old new told is = told_stays ⊥ old new told _ is.0.2.2 (tt, tt) is.1
  hears_change port (AnswerTo request) input.Wake link last old new told is = absurd is.0.2
  hears_change port (AnswerTo request) (input.Event c) link last old new told is = absurd is.0.2
  hears_change port (AnswerTo request) (input.Page c os) link last old new told is = absurd is.0.2
  hears_change port (AnswerTo request) (input.Reply r) link last old new told is = absurd is.0.2
  hears_change port (ReplyTo call) heard link last old new told is = core_hears port call heard old new told is.0

  -- the call of a step makes a change and reports it, and the status reports none
  pub step_becomes : (before after : PortValue) (link last : L) (old new : CoreView) (called status : List Event)
      → PortStep number steps before after link last old new called status → Becomes ⊥ old new called × AreQuiet status
  step_becomes before after link last old new called status is = (
    hears_change _ is.acts.wants is.acts.heard is.mid last old new called is.acts.hears,
    status_quiet before after status is.told,
  )
