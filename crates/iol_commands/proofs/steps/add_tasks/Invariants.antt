use Rattle.std.proofs.Common.{◌≡◌, ◌++◌, take}
use Rattle.iol_commands.specs.Steps.{tasks_of}
use Rattle.iol_commands.proofs.steps.add_tasks.Given as goal

-- the tasks of the steps so far are added
abbrev pub invariant-loop-step : goal.invariant-loop-step
invariant-loop-step l = l.tasks.items ≡ l.initial.tasks.items ++ tasks_of (take l.step-index l.steps)
