-- Steps and tasks that were made one after the other.
use Rattle.std.proofs.Common.{◌≡◌, refl, ◌≤◌, ◌+◌, ◌-◌, ◌^◌, min, ℕ, List, [], ◌∷◌, ◌++◌, replicate, take, ap, sym, ◌∙◌, subst, arith}
use Rattle.std.proofs.Common.{append-nil, append_assoc}
use Rattle.iol_disk.specs.Disk.{Disk}
use Rattle.iol_link.specs.Link.{LinkCall, LinkAnswer}
use Rattle.iol_run.specs.Runs.{RunView, Did}
use Rattle.iol_run.specs.Tasks.{IsCountOf, HasMade, HasRepeated, HasTried, HasDoneAll, EndsAfter, HasRun, waits_of}
use Rattle.iol_run.specs.declared.turn.Turned.{Turned}
use Rattle.iol_run.specs.declared.turn.Turned.TheVariants.{Made, Idle, Waited}
use Rattle.iol_run.specs.declared.schedule.Ended.{Ended}
use Rattle.iol_run.specs.declared.schedule.Ended.TheVariants.{Whole, Memory}
use Rattle.iol_run.specs.declared.step.Step.{Step}
use Rattle.iol_run.specs.declared.step.Step.TheVariants.{Client, Port, Flush}
use Rattle.iol_run.specs.declared.task.Task.{Task}
use Rattle.iol_run.specs.declared.task.Task.TheVariants as task

-- a step waits once at most
pub one_wait : (turned : Turned) → waits_of turned ≤ 1
one_wait Made = omega arith
one_wait Idle = omega arith
one_wait Waited = omega arith

-- a count of the turns that waited, with those that waited after them, is a count of all
pub count_more : (count early late total : ℕ) → IsCountOf count early → total ≡ min (count + late) (2 ^ 64 - 1)
    → IsCountOf total (early + late)
count_more count early late total counts more = grind (arith, counts, more)

module _ {D L : Type 0} (disk : D → Disk) (connection : L → ℕ) (allows : L → LinkCall → LinkAnswer → L → Type 0) where
  pub made_more : (steps : List Step) (step : Step) (turned : Turned) (waits : ℕ) (old mid new : RunView D L)
      → HasMade disk connection allows steps waits old mid → Did disk connection allows step turned mid new
      → HasMade disk connection allows (steps ++ step ∷ []) (waits + waits_of turned) old new
  made_more [] step turned waits old mid new made did = (
    turned,
    0,
    new,
    subst (λ (r : RunView D L). Did disk connection allows step turned r new) made.1 did,
    omega (arith, made.0),
    (refl, refl),
  )
  made_more (s ∷ steps) step turned waits old mid new made did = (
    made.0,
    made.1 + waits_of turned,
    made.2,
    made.3,
    omega (arith, made.4),
    made_more steps step turned made.1 made.2 mid new made.5 did,
  )

  -- a run keeps the clock of its beginning
  pub begun_stays : (made : List Step) (waits : ℕ) (old new : RunView D L) → HasMade disk connection allows made waits old new
      → new.begun ≡ old.begun
  begun_stays [] waits old new made = ap (λ (r : RunView D L). r.begun) made.1
  begun_stays (s ∷ more) waits old new made = begun_stays more made.1 made.2 new made.5 ∙ made.3.3

  -- steps that were made one after the other were made together
  pub made_join : (front rest : List Step) (early late : ℕ) (old mid new : RunView D L) → HasMade disk connection allows front early old mid
      → HasMade disk connection allows rest late mid new → HasMade disk connection allows (front ++ rest) (early + late) old new
  made_join [] rest early late old mid new first behind =
      subst (λ (n : ℕ). HasMade disk connection allows rest n old new) (omega (arith, first.0))
      (subst (λ (r : RunView D L). HasMade disk connection allows rest late r new) first.1 behind)
  made_join (s ∷ front) rest early late old mid new first behind = (
    first.0,
    first.1 + late,
    first.2,
    first.3,
    omega (arith, first.4),
    made_join front rest first.1 late first.2 mid new first.5 behind,
  )

  abbrev pub StepsMade : List Step → ℕ → RunView D L → RunView D L → Type 0
  StepsMade made waits old new = HasMade disk connection allows made waits old new

  -- the steps of a repeated one were made
  repeated_made : (ended : Ended) (step : Step) (times : ℕ) (made : List Step) (waits : ℕ) (old new : RunView D L)
      → HasRepeated disk connection allows ended step times made waits old new → StepsMade made waits old new
  repeated_made Whole step times made waits old new repeated = repeated.1
  repeated_made Memory step times made waits old new repeated = repeated.0.run

  -- the steps of a task were made
  pub tried_made : (ended : Ended) (task : Task) (made : List Step) (waits : ℕ) (old new : RunView D L)
      → HasTried disk connection allows ended task made waits old new → StepsMade made waits old new
  tried_made ended (task.Client change) made waits old new tried = repeated_made ended (Client change) 1 made waits old new tried
  tried_made ended (task.Port port times) made waits old new tried = repeated_made ended (Port port) times made waits old new tried
  tried_made ended (task.Flush times) made waits old new tried = repeated_made ended Flush times made waits old new tried
  tried_made Whole task.Drain made waits old new tried =
      let drained = tried.1 in
      subst (λ (n : ℕ). StepsMade made n old new) (sym tried.0)
      (subst (λ (ss : List Step). StepsMade ss 0 old new) (sym drained.made_is)
      (made_join (replicate drained.turns Flush) (Flush ∷ []) 0 0 old drained.last new drained.run
      (_, 0, new, drained.idle, omega arith, (refl, refl))))
  tried_made Memory task.Drain made waits old new tried = tried.run

  -- the steps of tasks were made
  all_made : (tasks : List Task) (made : List Step) (waits : ℕ) (old new : RunView D L)
      → HasDoneAll disk connection allows tasks made waits old new → StepsMade made waits old new
  all_made [] made waits old new done = subst (λ (ss : List Step). StepsMade ss waits old new) (sym done.0) (done.1, done.2)
  all_made (task ∷ tasks) made waits old new done =
      let mid = done.4 in
      subst (λ (n : ℕ). StepsMade made n old new) (sym done.8)
      (subst (λ (ss : List Step). StepsMade ss (done.2 + done.3) old new) (sym done.7)
      (made_join done.0 done.1 done.2 done.3 old mid new (tried_made Whole task done.0 done.2 old mid done.5)
      (all_made tasks done.1 done.3 mid new done.6)))

  -- the steps up to the last task, in which memory may have run out, were made
  end_made : (ended : Ended) (done : ℕ) (tasks : List Task) (made : List Step) (waits : ℕ) (old new : RunView D L)
      → EndsAfter disk connection allows ended done tasks made waits old new → StepsMade made waits old new
  end_made Whole done tasks made waits old new ends = subst (λ (ss : List Step). StepsMade ss waits old new) (sym ends.1) (ends.2, ends.3)
  end_made Memory done tasks made waits old new ends = tried_made Memory ends.0 made waits old new ends.2

  -- the steps of a schedule that was run were made
  pub run_made : (tasks : List Task) (ended : Ended) (made : List Step) (waits : ℕ) (old new : RunView D L)
      → HasRun disk connection allows tasks ended made waits old new → StepsMade made waits old new
  run_made tasks ended made waits old new run =
      subst (λ (n : ℕ). StepsMade made n old new) (sym run.waits_is)
      (subst (λ (ss : List Step). StepsMade ss (run.early + run.late) old new) (sym run.made_is)
      (made_join run.whole run.partly run.early run.late old run.mid new
      (all_made (take run.done tasks) run.whole run.early old run.mid run.tasks_done)
      (end_made ended run.done tasks run.partly run.late run.mid new run.ends)))

  -- one more task is done after those that are done
  pub done_more : (tasks : List Task) (task : Task) (made more : List Step) (waits waited : ℕ) (old mid new : RunView D L)
      → HasDoneAll disk connection allows tasks made waits old mid → HasTried disk connection allows Whole task more waited mid new
      → HasDoneAll disk connection allows (tasks ++ task ∷ []) (made ++ more) (waits + waited) old new
  done_more [] task made more waits waited old mid new all done = (
    more,
    [],
    waited,
    0,
    new,
    subst (λ (r : RunView D L). HasTried disk connection allows Whole task more waited r new) all.2 done,
    (refl, refl, refl),
    ap (λ (ss : List Step). ss ++ more) all.0 ∙ sym (append-nil more),
    omega (arith, all.1),
  )
  done_more (first ∷ tasks) task made more waits waited old mid new all done = (
    all.0,
    all.1 ++ more,
    all.2,
    all.3 + waited,
    all.4,
    all.5,
    done_more tasks task all.1 more all.3 waited all.4 mid new all.6 done,
    ap (λ (ss : List Step). ss ++ more) all.7 ∙ append_assoc all.0 all.1 more,
    omega (arith, all.8),
  )
