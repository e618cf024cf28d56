-- The tasks of a schedule, and the steps that are made for them.
use Rattle.std.specs.Prelude.{◌≡◌, ◌<◌, ◌^◌, ◌-◌, ℕ, ◌+◌, min, List, [], ◌∷◌, ◌++◌, length, replicate, take, Some, slice_get}
use Rattle.iol_disk.specs.Disk.{Disk}
use Rattle.iol_link.specs.Link.{LinkCall, LinkAnswer}
use Rattle.iol_run.specs.Runs.{RunView, Did}
use Rattle.iol_run.specs.declared.turn.Turned.{Turned}
use Rattle.iol_run.specs.declared.turn.Turned.TheVariants.{Idle, Waited}
use Rattle.iol_run.specs.declared.schedule.Ended.{Ended}
use Rattle.iol_run.specs.declared.schedule.Ended.TheVariants.{Whole, Memory}
use Rattle.iol_run.specs.declared.step.Step.{Step}
use Rattle.iol_run.specs.declared.step.Step.TheVariants.{Client, Port, Flush}
use Rattle.iol_run.specs.declared.task.Task.{Task}
use Rattle.iol_run.specs.declared.task.Task.TheVariants as task

-- a count is this number of waits, or 2^64 - 1 if there were more (own)
abbrev pub IsCountOf : ℕ → ℕ → Type 0
IsCountOf count waits = count ≡ min waits (2 ^ 64 - 1)

-- a step as a task: it is made once (own)
abbrev pub once : Step → Task
once (Client change) = task.Client change
once (Port port) = task.Port port 1
once Flush = task.Flush 1

-- a turn of the flusher that was out of memory counts as a wait (own)
abbrev pub waits_of : Turned → ℕ
waits_of Waited = 1
waits_of turned = 0

module _ {D L : Type 0} (disk : D → Disk) (number : L → ℕ) (steps : L → LinkCall → LinkAnswer → L → Type 0) where
  -- these steps were made one after another, and `waits` of them had to wait (own)
  abbrev pub HasMade : List Step → ℕ → RunView D L → RunView D L → Type 0
  HasMade [] waits old new = (waits ≡ 0) × (new ≡ old)
  HasMade (step ∷ made) waits old new =
      (turned : Turned) × (rest : ℕ) × (mid : RunView D L) × Did disk number steps step turned old mid × (waits ≡ waits_of turned + rest)
      × HasMade made rest mid new

  -- turns of the flusher were made, none of which had to wait, and then one that found nothing to do (own)
  pub record HasDrained (made : List Step) (old new : RunView D L) : Type 0 where
    pub turns : ℕ
    pub last : RunView D L
    pub made_is : made ≡ replicate turns Flush ++ Flush ∷ []
    pub run : HasMade (replicate turns Flush) 0 old last
    pub idle : Did disk number steps Flush Idle last new

  -- a step was made some number of times, after which memory may have run out (own)
  pub record HasBegun (step : Step) (made : List Step) (waits : ℕ) (old new : RunView D L) : Type 0 where
    pub times : ℕ
    pub made_is : made ≡ replicate times step
    pub run : HasMade made waits old new

  -- one step was made `times` times, or fewer if memory ran out (own)
  abbrev pub HasRepeated : Ended → Step → ℕ → List Step → ℕ → RunView D L → RunView D L → Type 0
  HasRepeated Whole step times made waits old new = (made ≡ replicate times step) × HasMade made waits old new
  HasRepeated Memory step times made waits old new = (begun : HasBegun step made waits old new) × (begun.times < times)

  -- a task was done: its step was made the given number of times, or the flusher has drained the queue. If memory ran out in it, its
  -- step was made fewer times, or the flusher made some turns (own)
  abbrev pub HasTried : Ended → Task → List Step → ℕ → RunView D L → RunView D L → Type 0
  HasTried ended (task.Client change) made waits old new = HasRepeated ended (Client change) 1 made waits old new
  HasTried ended (task.Port port times) made waits old new = HasRepeated ended (Port port) times made waits old new
  HasTried ended (task.Flush times) made waits old new = HasRepeated ended Flush times made waits old new
  HasTried Whole task.Drain made waits old new = (waits ≡ 0) × HasDrained made old new
  HasTried Memory task.Drain made waits old new = HasBegun Flush made waits old new

  -- tasks were done one after another (own)
  abbrev pub HasDoneAll : List Task → List Step → ℕ → RunView D L → RunView D L → Type 0
  HasDoneAll [] made waits old new = (made ≡ []) × (waits ≡ 0) × (new ≡ old)
  HasDoneAll (task ∷ tasks) made waits old new =
      (first rest : List Step) × (early late : ℕ) × (mid : RunView D L) × HasTried Whole task first early old mid
      × HasDoneAll tasks rest late mid new
      × (made ≡ first ++ rest) × (waits ≡ early + late)

  -- a schedule ended after `done` tasks: there were no more, or memory ran out in the next (own)
  abbrev pub EndsAfter : Ended → ℕ → List Task → List Step → ℕ → RunView D L → RunView D L → Type 0
  EndsAfter Whole done tasks made waits old new = (done ≡ length tasks) × (made ≡ []) × (waits ≡ 0) × (new ≡ old)
  EndsAfter Memory done tasks made waits old new =
      (task : Task) × (slice_get tasks done ≡ Some task) × HasTried Memory task made waits old new

  -- a schedule was run: its first tasks, all of them unless memory ran out, in their order; these steps were made (own)
  pub record HasRun (tasks : List Task) (ended : Ended) (made : List Step) (waits : ℕ) (old new : RunView D L) : Type 0 where
    pub done : ℕ
    pub whole : List Step
    pub partly : List Step
    pub early : ℕ
    pub late : ℕ
    pub mid : RunView D L
    pub tasks_done : HasDoneAll (take done tasks) whole early old mid
    pub ends : EndsAfter ended done tasks partly late mid new
    pub made_is : made ≡ whole ++ partly
    pub waits_is : waits ≡ early + late

  -- some steps repeat one step, or try a task, or, with waits as counted, run a schedule (own)
  abbrev pub Repeats : Ended → Step → ℕ → ℕ → RunView D L → RunView D L → Type 0
  Repeats ended step times waits old new = (made : List Step) × HasRepeated ended step times made waits old new

  abbrev pub Tries : Ended → Task → ℕ → RunView D L → RunView D L → Type 0
  Tries ended task waits old new = (made : List Step) × HasTried ended task made waits old new

  abbrev pub Runs : List Task → Ended → ℕ → RunView D L → RunView D L → Type 0
  Runs tasks ended count old new = (made : List Step) × (waits : ℕ) × HasRun tasks ended made waits old new × IsCountOf count waits
