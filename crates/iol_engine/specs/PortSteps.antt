-- What a step of a port does.
use Rattle.std.specs.Prelude.{◌≡◌, ◌⊎◌, ℕ, true, List, [], ◌∷◌, Option, Some, None, Result, Ok, Err}
use Rattle.iol_types.specs.Command.{CommandValue}
use Rattle.iol_link.specs.Isdu.{IsShortestRequest}
use Rattle.iol_link.specs.Link.{LinkCall, TakeEvent, ReadPage, Exchange, LinkAnswer, Octets, Gone, event_answer, connection_after}
use Rattle.iol_core.specs.Core.{CoreView}
use Rattle.iol_core.specs.Telling.{work_told}
use Rattle.iol_core.specs.Uploads.{store_of}
use Rattle.iol_core.specs.declared.port.Work.{Work}
use Rattle.iol_core.specs.declared.upload.FinishFault.{FinishFault}
use Rattle.iol_port.specs.Calls.{Call, FinishUpload, Replies, IsReplyTo}
use Rattle.iol_link.specs.declared.messages.Request.{Request}
use Rattle.iol_port.specs.Heard.{noted, woken, at_stage, IsFed}
use Rattle.iol_port.specs.History.{Did, Happens, ComesOf, is_at_hand}
use Rattle.iol_port.specs.Stage.{Stage, PortValue, IsStage}
use Rattle.iol_port.specs.Status.{status_of}
use Rattle.iol_port.specs.Telling.{status_told}
use Rattle.iol_port.specs.Wanted.{Wanted, Nothing, ThePage, AnswerTo, ReplyTo}
use Rattle.iol_port.specs.declared.action.Input.{Input}
use Rattle.iol_port.specs.declared.action.Input.TheVariants as input
use Rattle.iol_port.specs.declared.call.Reply.{Reply}
use Rattle.iol_port.specs.declared.call.Reply.TheVariants as reply
use Rattle.iol_engine.specs.declared.said.Said.{Said}
use Rattle.iol_core.specs.Events as trace
use Rattle.iol_core.specs.Events.{Event}

-- a machine is ready between its steps: no call awaits its reply, and the invariant of its stage holds (own)
pub record IsReady (stage : Stage) : Type 0 where
  pub at_hand : is_at_hand stage ≡ true
  pub holds : IsStage stage

-- the Store that a call files, if it files one (own)
abbrev pub store_in : Call → Option CommandValue
store_in (FinishUpload grant set) = Some (store_of grant set)
store_in _ = None

-- the event of a command that was accepted (own)
abbrev pub accepted_told : ℕ → Option CommandValue → List Event
accepted_told number None = []
accepted_told number (Some command) = trace.Accepted number command ∷ []

-- the event of a set that was filed: its number, if it was accepted (own)
abbrev pub filed_told : Option CommandValue → Result ℕ FinishFault → List Event
filed_told command (Ok number) = accepted_told number command
filed_told command (Err fault) = []

-- the event of a port's work, if the port is there (own)
abbrev pub attended_told : ℕ → Option Work → List Event
attended_told port None = []
attended_told port (Some work) = trace.Attended port (work_told work) ∷ []

-- the event of a call of the core: the work of the port, or a Store that was accepted (own)
abbrev pub reply_told : ℕ → Option CommandValue → Reply → List Event
reply_told port command (reply.Attended work) = attended_told port work
reply_told port command (reply.FinishedUpload finished) = filed_told command finished
reply_told port command _ = []

-- the core replies to a call of a port (own)
abbrev pub HearsCore : ℕ → Call → Input → CoreView → CoreView → List Event → Type 0
HearsCore port call (input.Reply heard) old new told = Replies call old new heard × (told ≡ reply_told port (store_in call) heard)
HearsCore port call _ old new told = ⊥

module _ {L : Type 0} (number : L → ℕ) (steps : L → LinkCall → LinkAnswer → L → Type 0) where
  -- the link reads the device's page, or the device is lost (own)
  abbrev pub HearsPage : ℕ → Input → L → L → List Event → Type 0
  HearsPage port (input.Page connection octets) old new told =
      (connection ≡ number old) × steps old ReadPage (Octets octets) new × (number new ≡ number old)
      × (told ≡ trace.Page port (number old) octets ∷ [])
  HearsPage port input.Lost old new told =
      steps old ReadPage Gone new × (number new ≡ connection_after (number old) Gone) × (told ≡ trace.Lost port (number old) None ∷ [])
  HearsPage port _ old new told = ⊥

  -- the link sends the octets of a request in the shortest form, and the device answers, or is lost (own)
  abbrev pub HearsAnswer : ℕ → List ℕ → Input → L → L → List Event → Type 0
  HearsAnswer port request (input.Octets answer) old new told =
      steps old (Exchange request) (Octets answer.items) new × (number new ≡ number old)
      × (told ≡ trace.Exchange port (number old) request answer.items ∷ [])
  HearsAnswer port request input.Lost old new told =
      steps old (Exchange request) Gone new × (number new ≡ connection_after (number old) Gone)
      × (told ≡ trace.Lost port (number old) (Some request) ∷ [])
  HearsAnswer port request _ old new told = ⊥

  -- what a port wants is asked of its link or of the core, once, and the outcome is reported (own)
  abbrev pub Hears : ℕ → Wanted → Input → L → L → CoreView → CoreView → List Event → Type 0
  Hears port Nothing heard old new before after told = ⊥
  Hears port ThePage heard old new before after told = HearsPage port heard old new told × (after ≡ before)
  Hears port (AnswerTo request) heard old new before after told =
      ((octets : List ℕ) × IsShortestRequest octets request × HearsAnswer port octets heard old new told) × (after ≡ before)
  Hears port (ReplyTo call) heard old new before after told = HearsCore port call heard before after told × (new ≡ old)

  -- what a port's machine wants is done, and the machine is fed the outcome (own)
  pub record Acts (old new : PortValue) (link last : L) (before after : CoreView) (told : List Event) : Type 0 where
    pub wants : Wanted
    pub heard : Input
    pub did : Happens old (Did wants heard) new
    pub hears : Hears old.port wants heard link last before after told

  -- the machine of a port is fed the page of its device, or that the device was lost, and that is reported (own)
  pub record HasPage (old new : PortValue) (link last : L) (told : Event) : Type 0 where
    pub heard : Input
    pub fed : IsFed old heard new
    pub holds : IsStage new.stage
    pub comes : ComesOf ThePage heard
    pub hears : HearsPage old.port heard link last (told ∷ [])

  -- the machine of a port is fed the answer to a request, or that the device was lost, and that is reported (own)
  pub record HasAnswer (request : Request) (old new : PortValue) (link last : L) (told : Event) : Type 0 where
    pub heard : Input
    pub octets : List ℕ
    pub shortest : IsShortestRequest octets request
    pub fed : IsFed old heard new
    pub holds : IsStage new.stage
    pub comes : ComesOf (AnswerTo request) heard
    pub hears : HearsAnswer old.port octets heard link last (told ∷ [])

-- the machine of a port is fed the core's reply, and that is reported (own)
pub record HasReply (call : Call) (old new : PortValue) (before after : CoreView) (told : List Event) : Type 0 where
  pub heard : Reply
  pub fed : IsFed old (input.Reply heard) new
  pub holds : IsStage new.stage
  pub comes : IsReplyTo call heard
  pub replies : Replies call before after heard
  pub told_is : told ≡ reply_told old.port (store_in call) heard

-- the value of the Store that a call files, if it files one (own)
abbrev pub command_said : Option Said → Option CommandValue
command_said None = None
command_said (Some said) = Some said.command

-- a machine after its device's event, if there is one (own)
abbrev pub noted_by : Option ℕ → PortValue → PortValue
noted_by None old = old
noted_by (Some code) old = noted old code

-- a machine after it was woken, if it was settled (own)
abbrev pub awake : PortValue → PortValue
awake old = at_stage old (woken old.stage)

-- the status of a port is reported if it has changed (own)
abbrev pub IsStatusTold : PortValue → PortValue → List Event → Type 0
IsStatusTold old new told =
    ((told ≡ []) × (status_of new.stage ≡ status_of old.stage))
    ⊎ ((told ≡ trace.Changed new.port (status_told (status_of new.stage)) ∷ []) × (status_of new.stage ≡ status_of old.stage → ⊥))

module _ {L : Type 0} (number : L → ℕ) (steps : L → LinkCall → LinkAnswer → L → Type 0) where
  -- the link is asked for an event of the device, which is noted if there is one (own)
  pub record HasEvent (old new : PortValue) (link last : L) : Type 0 where
    pub event : Option ℕ
    pub took : steps link TakeEvent (event_answer event) last
    pub same : number last ≡ number link
    pub new_is : new ≡ noted_by event old

  -- a step of a port: its device's event is noted, a settled machine is woken, what it wants is done, and the outcome is
  -- reported, and then the status, if that has changed (own)
  pub record PortStep (old new : PortValue) (link last : L) (before after : CoreView) (called status : List Event) : Type 0 where
    pub noted_value : PortValue
    pub mid : L
    pub hears_event : HasEvent old noted_value link mid
    pub acts : Acts number steps (awake noted_value) new mid last before after called
    pub told : IsStatusTold old new status
