-- What enough turns of the flusher leave, and what a drain does.
use Rattle.std.specs.Prelude.{◌≡◌, ◌≤◌, ℕ, ◌+◌, ◌*◌, List, [], ◌∷◌, ◌++◌, length, replicate}
use Rattle.iol_core.specs.declared.core_value.TheConstants.{QUEUE_COMMANDS}
use Rattle.iol_flush.specs.Stages.{most_checkpoint_calls}
use Rattle.iol_flush.specs.Turns.{most_freeing_calls}
use Rattle.iol_journal.specs.Layout.{Layout}
use Rattle.iol_core.specs.Events.{Stamp}
use Rattle.iol_core.specs.Words.{accepted, acked, HasFailure}
use Rattle.iol_run.specs.declared.schedule.Ended.{Ended}
use Rattle.iol_run.specs.declared.schedule.Ended.TheVariants.{Whole}
use Rattle.iol_run.specs.declared.step.Step.{Step}
use Rattle.iol_run.specs.declared.step.Step.TheVariants.{Flush}
use Rattle.iol_run.specs.declared.task.Task.{Task}
use Rattle.iol_run.specs.declared.task.Task.TheVariants.{Drain}

-- the steps end in at least this number of turns of the flusher (own)
pub record EndsInTurns (steps : List Step) (least : ℕ) : Type 0 where
  pub before : List Step
  pub turns : ℕ
  pub order : steps ≡ before ++ replicate turns Flush
  pub enough : least ≤ turns

-- if the steps end in enough turns of the flusher, none had to wait and no failure was reported, the number that was acknowledged
-- last is that of the last accepted command: the starting number, and one more for each (own)
abbrev pub AllFlushed : ℕ → List Step → ℕ → ℕ → List Stamp → Type 0
AllFlushed least made first waits events =
    EndsInTurns made least → waits ≡ 0 → (HasFailure events → ⊥) → acked first events ≡ first + length (accepted events)

-- if a schedule ends in a drain, all of its tasks were done and no failure was reported, the number that was acknowledged last is
-- that of the last accepted command (own)
abbrev pub AllDrained : List Task → Ended → ℕ → List Stamp → Type 0
AllDrained tasks ended first events =
    (before : List Task) → tasks ≡ before ++ Drain ∷ [] → ended ≡ Whole → (HasFailure events → ⊥)
    → acked first events ≡ first + length (accepted events)

-- the most turns that a batch needs for each of its commands. It is taken, too few slots are free, and a checkpoint is made, and
-- another one if the first was paused. Then its disk calls are made, 16 for each command and three more, and it is published and
-- acknowledged (own)
abbrev pub batch_turns : Layout → ℕ
batch_turns layout = 24 + most_freeing_calls layout

-- the most turns that a full queue needs: each command is a batch of its own, and a checkpoint that cannot be paused may come before
-- all, as it writes the layout in place of an older one (own)
abbrev pub queue_turns : Layout → ℕ
queue_turns layout = batch_turns layout * QUEUE_COMMANDS + (most_checkpoint_calls layout + 1)
