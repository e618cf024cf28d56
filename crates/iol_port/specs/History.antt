-- The history of a port's machine, from the beginning.
use Rattle.std.specs.Prelude.{◌≡◌, ℕ, Bool, true, false, List, [], ◌∷◌}
use Rattle.iol_port.specs.Calls.{IsReplyTo}
use Rattle.iol_port.specs.Heard.{IsFed, at_stage, noted}
use Rattle.iol_port.specs.Stage.{Stage, Filed, Returned, PortValue, IsStage, new_machine}
use Rattle.iol_port.specs.Wanted.{Wanted, Nothing, ThePage, AnswerTo, ReplyTo, wanted, after_action}
use Rattle.iol_port.specs.declared.action.Input.{Input}
use Rattle.iol_port.specs.declared.action.Input.TheVariants as input

-- an input is an outcome of what was wanted: a settled machine is woken, the page or an answer is there or the device is lost,
-- and the core replies to its call (own)
abbrev pub ComesOf : Wanted → Input → Type 0
ComesOf Nothing input.Wake = Unit {0}
ComesOf ThePage (input.Page connection octets) = Unit {0}
ComesOf ThePage input.Lost = Unit {0}
ComesOf (AnswerTo request) (input.Octets octets) = Unit {0}
ComesOf (AnswerTo request) input.Lost = Unit {0}
ComesOf (ReplyTo call) (input.Reply reply) = IsReplyTo call reply
ComesOf _ _ = ⊥

-- what happens to a machine: its device raises an event, or it wants something and is fed the outcome (own)
pub data Happening : Type 0 where
  Raised : (code : ℕ) → Happening
  Did : (wants : Wanted) (heard : Input) → Happening

-- a happening takes a machine from one value to another, which keeps the invariant of machines (own)
abbrev pub Happens : PortValue → Happening → PortValue → Type 0
Happens old (Raised code) new = new ≡ noted old code
Happens old (Did wants heard) new =
    (wants ≡ wanted old.port old.stage) × ComesOf wants heard × IsFed (at_stage old (after_action old.stage)) heard new
    × IsStage new.stage

-- all that has happened to a machine since it was new, the latest first, has led to this value (own)
abbrev pub HasLed : ℕ → List Happening → PortValue → Type 0
HasLed port [] last = last ≡ new_machine port
HasLed port (latest ∷ before) last = (old : PortValue) × HasLed port before old × Happens old latest last

-- no permit is with the core, in a call whose reply is awaited (own)
abbrev pub is_at_hand : Stage → Bool
is_at_hand (Filed page) = false
is_at_hand (Returned transfer rest) = false
is_at_hand _ = true
