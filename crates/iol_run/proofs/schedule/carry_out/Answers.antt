use Rattle.std.proofs.Common.{ℕ, length, map, sym, ap, ◌∙◌, subst}
use Rattle.iol_disk.specs.Content.{clock}
use Rattle.iol_front.specs.Fronts.{FrontId}
use Rattle.iol_journal.specs.Runs.{begun}
use Rattle.iol_journal.specs.Running.{IsRunAtRest}
use Rattle.iol_core.specs.CrashPrefix.{CrashPrefix}
use Rattle.iol_run.specs.Stamps.{stamp_of}
use Rattle.iol_run.specs.Schedules.{IsRunFrom}
use Rattle.iol_run.specs.Tasks.{HasRun, IsCountOf}
use Rattle.iol_run.specs.declared.schedule.Ended.{Ended}
use Rattle.iol_run.proofs.Crash.{begins, leaves}
use Rattle.iol_run.proofs.Failures.{tells_failures}
use Rattle.iol_run.proofs.Making.{run_made, begun_stays}
use Rattle.iol_run.proofs.Traces.{tells_run}
use Rattle.iol_run.proofs.schedule.carry_out.Goals as goal

-- the tasks made these steps, and the events say so
pub returns-in-Ok-clause-run : goal.returns-in-Ok-clause-run
returns-in-Ok-clause-run g c =
    let d = g.D.SectorDisk.disk in
    let l = g.L.DeviceLink in
    let tasks = c.args.schedule.now in
    let old = c.in-Ok.run' in
    let new = c.make_tasks-ended.new.run in
    let runs = c.make_tasks-ended.ensures.runs in
    let made = run_made d l.number l.steps tasks c.make_tasks-ended.result.0 runs.0 runs.1 old new runs.2 in
    let from : IsRunFrom d l.number l.steps c.args.journal c.args.links.items tasks runs.0 c.end.result = record {
      old = old;
      new = new;
      waits = runs.1;
      fresh = c.in-Ok.ensures.fresh;
      run = subst (λ (e : Ended). HasRun d l.number l.steps tasks e runs.0 runs.1 old new) (sym c.end.ensures.counted.0) runs.2;
      count = subst (λ (n : ℕ). IsCountOf n runs.1) (sym c.end.ensures.counted.1) runs.3;
      told = c.end.ensures.told.0;
      begun = c.end.ensures.told.1 ∙ begun_stays d l.number l.steps runs.0 runs.1 old new made;
      state = c.end.ensures.state;
      links_are = c.end.ensures.links;
      disk_is = c.end.ensures.disk;
    } in (
      runs.0,
      from,
      tells_run d l.number l.steps c.args.journal c.args.links.items tasks runs.0 c.end.result
          (sym c.args.links.ok.0 ∙ (c.requires.ports ∙ ap length c.requires.standing)) from,
    )

pub returns-in-Ok-clause-crash_prefix : goal.returns-in-Ok-clause-crash_prefix
returns-in-Ok-clause-crash_prefix g c = λ resting.
    let d = g.D.SectorDisk.disk in
    let start = g.F.Name.front.start in
    let new = c.make_tasks-ended.new.run in
    let named = subst (λ (f : FrontId).
    IsRunAtRest d (begun (clock (d c.args.journal.disk).content) f.start.number f.start.state) c.args.journal) c.requires.name
    resting in
    let left = leaves d start new c.end.ensures.happened
    (c.make_tasks-ended.ensures.kept.goes_on
    (begins d start c.args.journal c.args.links.items c.in-Ok.run' c.in-Ok.ensures.fresh named)) in
    subst (λ (f : FrontId).
    CrashPrefix (d c.end.result.disk) c.end.result.begun f.start.number f.start.state (map stamp_of c.end.result.events.items))
    (sym c.requires.name)
    (rw (c.end.ensures.disk, c.end.ensures.told.0, c.end.ensures.told.1) left)

pub returns-in-Ok-clause-failures : goal.returns-in-Ok-clause-failures
returns-in-Ok-clause-failures g c =
    let d = g.D.SectorDisk.disk in
    let l = g.L.DeviceLink in
    let old = c.in-Ok.run' in
    let new = c.make_tasks-ended.new.run in
    let runs = c.make_tasks-ended.ensures.runs in
    rw (c.end.ensures.disk, c.end.ensures.told.0)
    (tells_failures d l.number l.steps runs.0 runs.1 c.args.journal c.args.links.items old new c.in-Ok.ensures.fresh
    (run_made d l.number l.steps c.args.schedule.now c.make_tasks-ended.result.0 runs.0 runs.1 old new runs.2))
