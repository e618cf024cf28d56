use Rattle.std.proofs.Common.{refl, ◌+◌, replicate, List, [], ◌∷◌, ◌++◌, subst, sym}
use Rattle.std.proofs.lemmas.Grind.{replicate_next}
use Rattle.iol_run.specs.Runs.{Did}
use Rattle.iol_run.specs.Tasks.{HasMade, HasDrained}
use Rattle.iol_run.specs.declared.turn.Turned.{Turned}
use Rattle.iol_run.specs.declared.turn.Turned.TheVariants.{Made, Waited}
use Rattle.iol_run.specs.declared.step.Step.{Step}
use Rattle.iol_run.specs.declared.step.Step.TheVariants.{Flush}
use Rattle.iol_run.proofs.Making.{made_more}
use Rattle.iol_run.proofs.task.drain.Goals as goal

-- the last turn found nothing to do
pub returns-in-Ok-Idle-clause-tries : goal.returns-in-Ok-Idle-clause-tries
returns-in-Ok-Idle-clause-tries g c =
    let d = g.D.SectorDisk.disk in
    let l = g.L.DeviceLink in
    let steps = replicate c.loop.counter Flush ++ Flush ∷ [] in
    let drained : HasDrained d l.number l.steps steps c.args.run.now c.step.new.self = record {
      turns = c.loop.counter;
      last = c.loop.run;
      made_is = refl;
      run = c.loop.invariant.made;
      idle = subst (λ (t : Turned). Did d l.number l.steps Flush t c.loop.run c.step.new.self) c.in-Ok-Idle.field-0-is
          c.in-Ok-Idle.ensures.did;
    } in
    (steps, (refl, drained))

-- the last turn was out of memory
pub returns-in-Ok-Waited-clause-tries : goal.returns-in-Ok-Waited-clause-tries
returns-in-Ok-Waited-clause-tries g c =
    let d = g.D.SectorDisk.disk in
    let l = g.L.DeviceLink in
    let steps = replicate c.loop.counter Flush ++ Flush ∷ [] in (
      steps,
      record {
        times = c.loop.counter + 1;
        made_is = sym (replicate_next c.loop.counter Flush);
        run =
            made_more d l.number l.steps (replicate c.loop.counter Flush) Flush Waited 0 c.args.run.now c.loop.run c.step.new.self
            c.loop.invariant.made
            (subst (λ (t : Turned). Did d l.number l.steps Flush t c.loop.run c.step.new.self) c.in-Ok-Waited.field-0-is
            c.in-Ok-Waited.ensures.did);
      },
    )

pub loop-preserved : goal.loop-preserved
loop-preserved g c =
    let d = g.D.SectorDisk.disk in
    let l = g.L.DeviceLink in
    let made = c.loop.counter in
    record {
      made =
          subst (λ (ss : List Step). HasMade d l.number l.steps ss 0 c.args.run.now c.step.new.self) (sym (replicate_next made Flush))
          (made_more d l.number l.steps (replicate made Flush) Flush Made 0 c.args.run.now c.loop.run c.step.new.self c.loop.invariant.made
          (subst (λ (t : Turned). Did d l.number l.steps Flush t c.loop.run c.step.new.self) c.in-Ok-Made.field-0-is
          c.in-Ok-Made.ensures.did));
      kept = record { goes_on = λ was. c.step.ensures.kept.goes_on (c.loop.invariant.kept.goes_on was) };
    }
