-- What a port hears is what its machine wanted.
use Rattle.std.proofs.Common.{◌≡◌, refl, ℕ, List, [], ◌∷◌, subst}
use Rattle.iol_core.specs.Core.{CoreView}
use Rattle.iol_link.specs.declared.messages.Request.{Request}
use Rattle.iol_link.specs.Link.{LinkCall, LinkAnswer}
use Rattle.iol_port.proofs.Fitting.{fits}
use Rattle.iol_port.proofs.Keeping.{happens_hand}
use Rattle.iol_port.specs.Calls.{Call, IsReplyTo}
use Rattle.iol_port.specs.Heard.{FitsReply, at_stage}
use Rattle.iol_port.specs.History.{Did, ComesOf}
use Rattle.iol_port.specs.Stage.{PortValue}
use Rattle.iol_port.specs.Wanted.{Wanted, ThePage, AnswerTo, ReplyTo, wanted, after_action}
use Rattle.iol_port.specs.declared.action.Input.TheVariants as input
use Rattle.iol_port.specs.declared.call.Reply.{Reply}
use Rattle.iol_core.specs.Events.{Event}
use Rattle.iol_engine.specs.PortSteps.{Acts, IsReady, HasPage, HasAnswer, HasReply}

-- the machine once its action is asked
abbrev asked : PortValue → PortValue
asked old = at_stage old (after_action old.stage)

-- a reply to the call that it wants may be fed to it
pub reply_fits : (old : PortValue) (call : Call) → ReplyTo call ≡ wanted old.port old.stage → IsReady old.stage
    → (heard : Reply) → IsReplyTo call heard → FitsReply (after_action old.stage) heard
reply_fits old call wants ready heard is =
    fits old.port old.stage (input.Reply heard) ready.holds ready.at_hand (subst (λ (w : Wanted). ComesOf w (input.Reply heard)) wants is)

module _ {L : Type 0} (number : L → ℕ) (steps : L → LinkCall → LinkAnswer → L → Type 0) where
  pub page_acts : (old new : PortValue) (link last : L) (core : CoreView) (told : Event) → ThePage ≡ wanted old.port old.stage
      → HasPage number steps (asked old) new link last told → Acts number steps old new link last core core (told ∷ [])
  page_acts old new link last core told wants has = record {
    wants = ThePage;
    heard = has.heard;
    did = (wants, has.comes, has.fed, has.holds);
    hears = (has.hears, refl);
  }

  pub answer_acts : (old new : PortValue) (request : Request) (link last : L) (core : CoreView) (told : Event) → AnswerTo request
      ≡ wanted old.port old.stage
      → HasAnswer number steps request (asked old) new link last told → Acts number steps old new link last core core (told ∷ [])
  answer_acts old new request link last core told wants has = record {
    wants = AnswerTo request;
    heard = has.heard;
    did = (wants, has.comes, has.fed, has.holds);
    hears = ((has.octets, has.shortest, has.hears), refl);
  }

  pub reply_acts : (old new : PortValue) (call : Call) (link : L) (before after : CoreView) (told : List Event) → ReplyTo call
      ≡ wanted old.port old.stage
      → HasReply call (asked old) new before after told → Acts number steps old new link link before after told
  reply_acts old new call link before after told wants has = record {
    wants = ReplyTo call;
    heard = input.Reply has.heard;
    did = (wants, has.comes, has.fed, has.holds);
    hears = ((has.replies, has.told_is), refl);
  }

  -- it is ready again then
  pub ready_again : (old new : PortValue) (link last : L) (before after : CoreView) (told : List Event) → IsReady old.stage
      → Acts number steps old new link last before after told → IsReady new.stage
  ready_again old new link last before after told ready acts = record {
    at_hand = happens_hand old new (Did acts.wants acts.heard) ready.at_hand acts.did;
    holds = acts.did.3;
  }
