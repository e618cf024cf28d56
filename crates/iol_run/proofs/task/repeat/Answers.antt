use Rattle.std.proofs.Common.{◌≡◌, refl, ◌+◌, ℕ, replicate, List, [], ◌∷◌, ◌++◌, ap, sym, subst, arith}
use Rattle.std.proofs.lemmas.Grind.{replicate_next}
use Rattle.iol_run.specs.Runs.{RunView}
use Rattle.iol_run.specs.Tasks.{HasMade, HasBegun, waits_of}
use Rattle.iol_run.specs.declared.step.Step.{Step}
use Rattle.iol_run.proofs.Making.{made_more, one_wait}
use Rattle.iol_run.proofs.task.repeat.Goals as goal

pub loop-preserved : goal.loop-preserved
loop-preserved g c =
    let d = g.D.SectorDisk.disk in
    let l = g.L.DeviceLink in
    let made = c.loop.counter in
    let step = c.args.step.now in
    let counted : c.loop.waits + c.waits_of-waits.result ≡ c.loop.waits + waits_of c.in-Ok.turned =
    ap (λ (n : ℕ). c.loop.waits + n) c.waits_of-waits.ensures in
    record {
      made =
          subst (λ (ss : List Step).
          HasMade d l.number l.steps ss (c.loop.waits + c.waits_of-waits.result) c.args.run.now c.step.new.self) (sym (replicate_next made
          step))
          (subst (λ (n : ℕ). HasMade d l.number l.steps (replicate made step ++ step ∷ []) n c.args.run.now c.step.new.self) (sym counted)
          (made_more d l.number l.steps (replicate made step) step c.in-Ok.turned c.loop.waits c.args.run.now c.loop.run c.step.new.self
          c.loop.invariant.made c.in-Ok.ensures.did));
      few = omega (arith, c.loop.invariant.few, c.waits_of-waits.ensures, one_wait c.in-Ok.turned);
      kept = record { goes_on = λ was. c.step.ensures.kept.goes_on (c.loop.invariant.kept.goes_on was) };
    }

-- memory ran out before the next step
pub returns-in-Err-clause-repeats : goal.returns-in-Err-clause-repeats
returns-in-Err-clause-repeats g c =
    let d = g.D.SectorDisk.disk in
    let l = g.L.DeviceLink in
    let steps = replicate c.loop.counter c.args.step.now in
    let begun : HasBegun d l.number l.steps c.args.step.now steps c.loop.waits c.args.run.now c.step.new.self = record {
      times = c.loop.counter;
      made_is = refl;
      run =
          subst (λ (r : RunView g.row.D.Denot g.row.L.Denot). HasMade d l.number l.steps steps c.loop.waits c.args.run.now r)
          (sym c.in-Err.ensures.same) c.loop.invariant.made;
    } in
    (steps, (begun, c.loop-test.true))
