-- A step of a port over a link is one over the number of the link's connection.
use Rattle.std.proofs.Common.{ℕ, List, ap}
use Rattle.iol_core.specs.Core.{CoreView}
use Rattle.iol_link.specs.Link.{LinkCall, LinkAnswer}
use Rattle.iol_port.specs.Stage.{PortValue}
use Rattle.iol_port.specs.Wanted.{Wanted, Nothing, ThePage, AnswerTo, ReplyTo}
use Rattle.iol_port.specs.declared.action.Input.{Input}
use Rattle.iol_port.specs.declared.action.Input.TheVariants as input
use Rattle.iol_core.specs.Events.{Event}
use Rattle.iol_engine.specs.Engine.{MakesStep, any_steps, itself}
use Rattle.iol_engine.specs.PortSteps.{HasEvent, Hears, HearsAnswer, HearsPage, PortStep, awake}

module _ {L : Type 0} (number : L → ℕ) (steps : L → LinkCall → LinkAnswer → L → Type 0) where
  pub numbered_event : (old new : PortValue) (link last : L) → HasEvent number steps old new link last
      → HasEvent itself any_steps old new (number link) (number last)
  numbered_event old new link last is = record { event = is.event; took = tt; same = is.same; new_is = is.new_is }

  pub numbered_page : (port : ℕ) (heard : Input) (link last : L) (told : List Event) → HearsPage number steps port heard link last told
      → HearsPage itself any_steps port heard (number link) (number last) told
  numbered_page port (input.Page c os) link last told is = (is.0, tt, is.2, is.3)
  numbered_page port input.Lost link last told is = (tt, is.1, is.2)
  numbered_page port input.Wake link last told is = absurd is
  numbered_page port (input.Event c) link last told is = absurd is
  numbered_page port (input.Octets os) link last told is = absurd is
  numbered_page port (input.Reply r) link last told is = absurd is

  pub numbered_answer : (port : ℕ) (request : List ℕ) (heard : Input) (link last : L) (told : List Event)
      → HearsAnswer number steps port request heard link last told
      → HearsAnswer itself any_steps port request heard (number link) (number last) told
  numbered_answer port request (input.Octets os) link last told is = (tt, is.1, is.2)
  numbered_answer port request input.Lost link last told is = (tt, is.1, is.2)
  numbered_answer port request input.Wake link last told is = absurd is
  numbered_answer port request (input.Event c) link last told is = absurd is
  numbered_answer port request (input.Page c os) link last told is = absurd is
  numbered_answer port request (input.Reply r) link last told is = absurd is

  pub numbered_hears : (port : ℕ) (wants : Wanted) (heard : Input) (link last : L) (old new : CoreView) (told : List Event)
      → Hears number steps port wants heard link last old new told
      → Hears itself any_steps port wants heard (number link) (number last) old new told
  numbered_hears port Nothing heard link last old new told is = absurd is
  numbered_hears port ThePage heard link last old new told is = (numbered_page port heard link last told is.0, is.1)
  numbered_hears port (AnswerTo request) heard link last old new told is =
      ((is.0.0, is.0.1, numbered_answer port is.0.0 heard link last told is.0.2), is.1)
  numbered_hears port (ReplyTo call) heard link last old new told is = (is.0, ap number is.1)

  pub numbered_step : (before after : PortValue) (link last : L) (old new : CoreView) (called status : List Event)
      → PortStep number steps before after link last old new called status
      → PortStep itself any_steps before after (number link) (number last) old new called status
  numbered_step before after link last old new called status is = record {
    noted_value = is.noted_value;
    mid = number is.mid;
    hears_event = numbered_event before is.noted_value link is.mid is.hears_event;
    acts = record {
      wants = is.acts.wants;
      heard = is.acts.heard;
      did = is.acts.did;
      hears =
          numbered_hears (awake is.noted_value).port is.acts.wants is.acts.heard is.mid last old new called is.acts.hears;
    };
    told = is.told;
  }

  abbrev pub numbered : (port : ℕ) (old new : CoreView) (machines last : List PortValue) (link linked : L) (told : List Event)
      → MakesStep number steps port old new machines last link linked told
      → MakesStep itself any_steps port old new machines last (number link) (number linked) told
  numbered port old new machines last link linked told is = record {
    before = is.before;
    after = is.after;
    called = is.called;
    status = is.status;
    some = is.some;
    machine_is = is.machine_is;
    steps_as = numbered_step is.before is.after link linked old new is.called is.status is.steps_as;
    told_is = is.told_is;
    last_is = is.last_is;
  }
