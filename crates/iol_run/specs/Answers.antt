-- The answers to clients.
use Rattle.std.specs.Prelude.{◌≡◌, ◌+◌, ℕ, Bool, true, false, List, [], ◌∷◌, ◌++◌, Option, Some, None}
use Rattle.iol_types.specs.Command.{CommandValue, Store, command_of}
use Rattle.iol_types.specs.State.{State}
use Rattle.iol_core.specs.Core.{CoreView, live_number}
use Rattle.iol_core.specs.Submit.{submit_fault}
use Rattle.iol_core.specs.Telling.{refusal_of}
use Rattle.iol_core.specs.declared.stop.StopCause.TheVariants.{DiskFailed}
use Rattle.iol_core.specs.declared.ticket.SubmitFault.{SubmitFault}
use Rattle.iol_core.specs.Events as trace
use Rattle.iol_core.specs.Events.{Event, Stamp}
use Rattle.iol_core.specs.Words.{HasFailure}
use Rattle.iol_engine.specs.PortRuns.{IsCoreAfter}
use Rattle.iol_run.specs.declared.step.Step.{Step}
use Rattle.iol_run.specs.declared.step.Step.TheVariants.{Client}

-- the commands that clients ask for, in the order of the steps that were made (own)
abbrev pub clients_of : List Step → List CommandValue
clients_of [] = []
clients_of (Client change ∷ made) = command_of change ∷ clients_of made
clients_of (step ∷ made) = clients_of made

-- an event answers a client: its command is accepted, or refused; a Store is no client's command (own)
abbrev pub is_answer : Event → Bool
is_answer (trace.Accepted number (Store port revision set)) = false
is_answer (trace.Accepted number command) = true
is_answer (trace.Refused refusal) = true
is_answer event = false

-- a command is accepted under the next number, if the core does not refuse it; or it is refused, for the first cause (own)
abbrev pub IsAnswer : CoreView → CommandValue → Event → Option SubmitFault → Type 0
IsAnswer core command told None = told ≡ trace.Accepted (live_number core + 1) command
IsAnswer core command told (Some fault) = told ≡ trace.Refused (refusal_of fault)

-- an event answers a client's command as a core does after the events before: with the live state after what was accepted, with
-- those waiting that were accepted and not acknowledged, and stopped exactly if a failure of the disk was reported (own)
pub record Answers (first : ℕ) (start : State) (before : List Stamp) (command : CommandValue) (told : Event) : Type 0 where
  pub core : CoreView
  pub stands : IsCoreAfter first start before core
  pub runs : (HasFailure before → ⊥) → core.stopped ≡ None
  pub failed : HasFailure before → core.stopped ≡ Some DiskFailed
  pub answer : IsAnswer core command told (submit_fault core command)

-- the next event answers the next command of a client, if it is an answer; the events after it answer the others (own)
abbrev pub AnswersNext : (List CommandValue → Type 0) → ℕ → State → List Stamp → List CommandValue → Event → Bool → Type 0
AnswersNext Behind first start before commands told true =
    (command : CommandValue) × (rest : List CommandValue) × (commands ≡ command ∷ rest) × Answers first start before command told
    × Behind rest
AnswersNext Behind first start before commands told false = Behind commands

-- after the events before, these events answer these commands of clients, each one once and in their order (own)
abbrev pub AnswersClients : ℕ → State → List Stamp → List CommandValue → List Stamp → Type 0
AnswersClients first start before commands [] = commands ≡ []
AnswersClients first start before commands (e ∷ events) =
    AnswersNext (λ rest. AnswersClients first start (before ++ e ∷ []) rest events) first start before commands e.event (is_answer e.event)
