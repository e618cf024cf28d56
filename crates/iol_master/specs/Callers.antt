-- What the lock of a master guards: the engine, and the callers that wait for its commands.
use Rattle.std.specs.Prelude.{◌≡◌, ℕ, Bool, true, false, List, [], ◌∷◌, Option, Some, None}
use Rattle.std.specs.Option.{option_map}
use Rattle.iol_types.specs.Command.{CommandValue, command_of}
use Rattle.iol_types.specs.declared.command.Change.{Change}
use Rattle.iol_core.specs.Core.{CoreView}
use Rattle.iol_core.specs.Submit.{stopped_by}
use Rattle.iol_core.specs.declared.stop.StopCause.TheVariants.{OutOfMemory}
use Rattle.iol_engine.specs.Engine.{EngineView}
use Rattle.iol_master.specs.declared.caller.Caller.{Caller}
use Rattle.iol_master.specs.declared.guarded.Phase.{Phase}
use Rattle.iol_master.specs.declared.guarded.Phase.TheVariants.{Running}

-- the change that a waiting caller requested, if there is a caller (own)
abbrev pub asked : {F : Type 0} → Option (Caller F) → Option Change
asked caller = option_map (λ c. c.change) caller

-- each command of the queue has no caller, or one that requested this command (own)
abbrev pub AreCallersOf : List CommandValue → List (Option Change) → Type 0
AreCallersOf [] [] = Unit {0}
AreCallersOf (command ∷ queue) (None ∷ callers) = AreCallersOf queue callers
AreCallersOf (command ∷ queue) (Some change ∷ callers) = (command_of change ≡ command) × AreCallersOf queue callers
AreCallersOf queue callers = ⊥

-- what the lock guards, as contracts see it: the engine, the changes of the waiting callers, the number of times that each port was woken,
-- and the phase of the run (own)
pub record GuardedView : Type 0 where
  pub engine : EngineView
  pub callers : List (Option Change)
  pub wakes : List ℕ
  pub phase : Phase

-- the run is to end: each port is served only until it is settled (own)
abbrev pub ends : Phase → Bool
ends Running = false
ends phase = true

-- the core after memory ran out for its queue: if the run is to end, nothing more is written (own)
abbrev pub given_up : Phase → CoreView → CoreView
given_up Running core = core
given_up phase core = record core { stopped = Some (stopped_by core.stopped OutOfMemory) }
