use Rattle.std.proofs.Common.{◌≡◌, refl, ◌+◌, take, length, List, [], ◌∷◌, ◌++◌, sym, ap, ◌∙◌, subst, arith, append-nil}
use Rattle.std.proofs.lemmas.List.{take_more}
use Rattle.std.proofs.lemmas.Option.{slice_get_read}
use Rattle.iol_run.specs.Tasks.{HasDoneAll, Tries}
use Rattle.iol_run.specs.declared.schedule.Ended.{Ended}
use Rattle.iol_run.specs.declared.schedule.Ended.TheVariants.{Whole, Memory}
use Rattle.iol_run.specs.declared.task.Task.{Task}
use Rattle.iol_run.proofs.Making.{done_more, count_more}
use Rattle.iol_run.proofs.task.make_tasks.Goals as goal

-- memory ran out in this task
pub returns-in-Memory-clause-runs : goal.returns-in-Memory-clause-runs
returns-in-Memory-clause-runs g c =
    let d = g.D.SectorDisk.disk in
    let l = g.L.DeviceLink in
    let is = c.loop-task.invariant in
    let tried : Tries d l.number l.steps Memory c.task-item.result c.make_task-ended.result.1 c.loop-task.run c.make_task-ended.new.run =
    subst (λ (e : Ended). Tries d l.number l.steps e c.task-item.result c.make_task-ended.result.1 c.loop-task.run
    c.make_task-ended.new.run)
    c.in-Memory.is c.make_task-ended.ensures.tries in (
      is.made ++ tried.0,
      is.waited + c.make_task-ended.result.1,
      record {
        done = c.loop-task.task-index;
        whole = is.made;
        partly = tried.0;
        early = is.waited;
        late = c.make_task-ended.result.1;
        mid = c.loop-task.run;
        tasks_done = is.done;
        ends = (
          c.task-item.result,
          slice_get_read c.args.schedule.now (length c.args.schedule.now) c.loop-task.task-index c.task-item.result refl
              c.loop-task-test.true c.task-item.is,
          tried.1,
        );
        made_is = refl;
        waits_is = refl;
      },
      count_more c.loop-task.waits is.waited c.make_task-ended.result.1 c.saturating_add-waits.result is.count
          c.saturating_add-waits.ensures,
    )

-- one more task is done
pub loop-task-preserved : goal.loop-task-preserved
loop-task-preserved g c =
    let d = g.D.SectorDisk.disk in
    let l = g.L.DeviceLink in
    let is = c.loop-task.invariant in
    let i = c.loop-task.task-index in
    let tasks = c.args.schedule.now in
    let item = c.task-item.result in
    let more : take (i + 1) tasks ≡ take i tasks ++ item ∷ [] =
    take_more tasks i item (omega arith) ∙ ap (λ (s : Task). take i tasks ++ s ∷ []) (sym c.task-item.is) in
    let tried : Tries d l.number l.steps Whole item c.make_task-ended.result.1 c.loop-task.run c.make_task-ended.new.run =
    subst (λ (e : Ended). Tries d l.number l.steps e item c.make_task-ended.result.1 c.loop-task.run c.make_task-ended.new.run)
    c.in-Whole.is c.make_task-ended.ensures.tries in
    record {
      made = is.made ++ tried.0;
      waited = is.waited + c.make_task-ended.result.1;
      done =
          subst (λ (ts : List Task).
          HasDoneAll d l.number l.steps ts (is.made ++ tried.0) (is.waited + c.make_task-ended.result.1) c.args.run.now
          c.make_task-ended.new.run) (sym more)
          (done_more d l.number l.steps (take i tasks) item is.made tried.0 is.waited c.make_task-ended.result.1 c.args.run.now
          c.loop-task.run
          c.make_task-ended.new.run is.done tried.1);
      count =
          count_more c.loop-task.waits is.waited c.make_task-ended.result.1 c.saturating_add-waits.result is.count
          c.saturating_add-waits.ensures;
      kept = record { goes_on = λ was. c.make_task-ended.ensures.kept.goes_on (is.kept.goes_on was) };
    }

-- all tasks are done
pub returns-clause-runs : goal.returns-clause-runs
returns-clause-runs g c =
    let is = c.loop-task.invariant in (
      is.made,
      is.waited,
      record {
        done = c.loop-task.task-index;
        whole = is.made;
        partly = [];
        early = is.waited;
        late = 0;
        mid = c.loop-task.run;
        tasks_done = is.done;
        ends = (omega (arith, c.loop-task-test.false, c.loop-task.auto.task-index-end), refl, refl, refl);
        made_is = sym (append-nil is.made);
        waits_is = omega arith;
      },
      is.count,
    )
