-- The steps of a port lead its machine: what has happened to it.
use Rattle.std.proofs.Common.{◌≡◌, refl, ℕ, Bool, List, [], ◌∷◌, ◌++◌, Option, Some, None, Ok, Err, ap, sym, ◌∙◌, subst, append_assoc}
use Rattle.iol_core.specs.Core.{CoreView}
use Rattle.iol_core.specs.declared.permit.UploadGrant.{UploadGrant}
use Rattle.iol_core.specs.declared.upload.FinishFault.TheVariants as finish
use Rattle.iol_link.specs.Link.{LinkCall, LinkAnswer}
use Rattle.iol_port.proofs.PortLaws.{a_set_is_filed_whole}
use Rattle.iol_port.specs.Calls.{BeginUpload, FinishUpload, IsReplyTo}
use Rattle.iol_port.specs.History.{Happening, Raised, Did, HasLed, ComesOf}
use Rattle.iol_port.specs.Laws.{HasUploaded}
use Rattle.iol_port.specs.Stage.{Stage, Settled, PortValue, machine_at}
use Rattle.iol_port.specs.Wanted.{Wanted, AnswerTo, ReplyTo, wanted}
use Rattle.iol_port.specs.declared.action.Input.TheVariants as input
use Rattle.iol_port.specs.declared.call.Reply.TheVariants as reply
use Rattle.iol_core.specs.Events.{Event}
use Rattle.iol_transfer.specs.Exchanges.{Exchange}
use Rattle.iol_types.specs.DataSet.{SetValue}
use Rattle.iol_engine.specs.PortRuns.{raised_first, woken_first, happened}
use Rattle.iol_engine.specs.PortSteps.{PortStep, noted_by, awake}

-- the permit to upload that was given last is of the port itself
granted : (port : ℕ) (history : List Happening) (value : PortValue) (grant : UploadGrant) (conversation : List Exchange)
    → HasLed port history value
    → HasUploaded port grant conversation history → grant.port ≡ port
granted port [] value grant conversation led uploaded = absurd uploaded
granted port (Raised code ∷ before) value grant conversation (old, led, is) uploaded =
    granted port before old grant conversation led uploaded
granted port (Did wants (input.Reply (reply.BegunUpload (Ok given))) ∷ before) value grant conversation (old, led, is) uploaded =
    let replied : IsReplyTo (BeginUpload port grant.vendor grant.device grant.connection) (reply.BegunUpload (Ok given)) =
    subst (λ (w : Wanted). ComesOf w (input.Reply (reply.BegunUpload (Ok given)))) uploaded.1 is.1 in
    ap (λ (g : UploadGrant). g.port) (sym uploaded.0) ∙ replied.port_is
granted port (Did (AnswerTo request) (input.Octets octets) ∷ before) value grant conversation (old, led, is) uploaded =
    granted port before old grant uploaded.0 led uploaded.2
granted port (Did wants (input.Reply (reply.FinishedUpload (Err (finish.QueueFull permit set)))) ∷ before) value grant conversation (
  old,
  led,
  is,
) uploaded =
    granted port before old grant conversation led uploaded
granted port (Did wants heard ∷ before) value grant conversation led uploaded = absurd uploaded

-- and so is that of a set that is filed
pub filed_port : (port : ℕ) (history : List Happening) (value : PortValue) (grant : UploadGrant) (set : SetValue)
    → HasLed port history value
    → wanted value.port value.stage ≡ ReplyTo (FinishUpload grant set) → grant.port ≡ port
filed_port port history value grant set led wants =
    let filed = a_set_is_filed_whole port history value grant set led wants in
    granted port history value grant filed.0 led filed.1

-- what has led a machine to a value
abbrev pub Led : ℕ → PortValue → Type 0
Led port value = (history : List Happening) × HasLed port history value

-- an event is noted
noted_led : (port : ℕ) (value : PortValue) (event : Option ℕ) (history : List Happening) → HasLed port history value
    → HasLed port (raised_first event ++ history) (noted_by event value)
noted_led port value None history led = led
noted_led port value (Some code) history led = (value, led, refl)

-- and a settled machine woken
awake_led : (port own : ℕ) (started : Option ℕ) (requested : Bool) (stage : Stage) (history : List Happening)
    → HasLed port history (machine_at own started requested stage)
    → HasLed port (woken_first stage ++ history) (awake (machine_at own started requested stage))
awake_led port own started requested (Settled rest) history led =
    (machine_at own started requested (Settled rest), led, (refl, tt, refl, tt))
awake_led port own started requested stage history led = led

module _ {L : Type 0} (number : L → ℕ) (steps : L → LinkCall → LinkAnswer → L → Type 0) where
  -- what has led the machine that acts in a step
  acting_history : (port : ℕ) (before after : PortValue) (link last : L) (old new : CoreView) (called status : List Event)
      (history : List Happening) → HasLed port history before
      → (is : PortStep number steps before after link last old new called status)
      → HasLed port (woken_first (noted_by is.hears_event.event before).stage ++ (raised_first is.hears_event.event ++ history))
      (awake is.noted_value)
  acting_history port before after link last old new called status history led is =
      let event = is.hears_event.event in
      let value = noted_by event before in
      subst (λ (v : PortValue). HasLed port (woken_first value.stage ++ (raised_first event ++ history)) (awake v))
      (sym is.hears_event.new_is)
      (awake_led port value.port value.started_revision value.upload_requested value.stage (raised_first event ++ history)
      (noted_led port before event history led))

  pub acting_led : (port : ℕ) (before after : PortValue) (link last : L) (old new : CoreView) (called status : List Event) → Led port before
      → (is : PortStep number steps before after link last old new called status) → Led port (awake is.noted_value)
  acting_led port before after link last old new called status led is =
      (_, acting_history port before after link last old new called status led.0 led.1 is)

  -- and the machine after the step
  pub step_led : (port : ℕ) (before after : PortValue) (link last : L) (old new : CoreView) (called status : List Event)
      (history : List Happening) → HasLed port history before
      → (is : PortStep number steps before after link last old new called status)
      → HasLed port (happened before is.hears_event.event is.acts.wants is.acts.heard ++ history) after
  step_led port before after link last old new called status history led is =
      let event = is.hears_event.event in
      let woken = woken_first (noted_by event before).stage in
      let acting = acting_history port before after link last old new called status history led is in (
        awake is.noted_value,
        subst (λ (es : List Happening). HasLed port es (awake is.noted_value)) (sym (append_assoc woken (raised_first event) history))
            acting,
        is.acts.did,
      )
