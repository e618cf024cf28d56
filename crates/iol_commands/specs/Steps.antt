-- The steps of a script, as tasks of a run.
use Rattle.std.specs.Prelude.{List, map}
use Rattle.iol_run.specs.declared.task.Task.{Task}
use Rattle.iol_run.specs.declared.task.Task.TheVariants.{Client, Port, Flush, Drain}
use Rattle.iol_script.specs.declared.step.Step as script
use Rattle.iol_script.specs.declared.step.Step.TheVariants as said

-- the task for a step of a script (format, Scripts)
abbrev pub task_of : script.Step → Task
task_of (said.Ask change) = Client change
task_of (said.Port port times) = Port port times
task_of (said.Flush times) = Flush times
task_of said.Drain = Drain

-- the schedule of a script: the tasks of its steps, in their order (format, Scripts)
abbrev pub tasks_of : List script.Step → List Task
tasks_of steps = map task_of steps
