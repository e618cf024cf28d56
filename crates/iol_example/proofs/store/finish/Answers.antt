use Rattle.std.proofs.Common.{List, length, refl, ap, ◌∙◌, arith}
use Rattle.iol_disk.specs.Calls.{Call}
use Rattle.iol_disk.proofs.DiskLaws.{started}
use Rattle.iol_journal.proofs.JournalLaws.{underway_means_either}
use Rattle.iol_journal.specs.Journals.{calls_left}
use Rattle.iol_example.proofs.CallLaws.{none_yet, one_more, all_made, one_failed}
use Rattle.iol_example.proofs.StoreLaws.{batch_goes_on}
use Rattle.iol_example.proofs.store.finish.Goals as goal

pub loop-next-init : goal.loop-next-init
loop-next-init g c =
    let d = g.D.SectorDisk.disk in
    let w = c.args.writing in (
      refl,
      refl,
      λ under. under,
      λ under. started (d w.disk) _ (underway_means_either d w under),
      λ r run. run,
      λ beside. beside,
      none_yet (calls_left w) (calls_left w) (d w.disk) (d w.disk) refl refl,
    )

pub loop-next-smaller : goal.loop-next-smaller
loop-next-smaller g c = omega (arith, ap (λ (calls : List Call). length calls) c.in-More.ensures.call.order)

pub loop-next-preserved : goal.loop-next-preserved
loop-next-preserved g c =
    let so_far = c.loop-next.invariant in
    let more = c.in-More.ensures.more in (
      more.standing ∙ so_far.0,
      more.commands ∙ so_far.1,
      λ under. c.in-More.ensures.underway (so_far.2 under),
      λ under. batch_goes_on _ _ _ _ _ _ _ so_far.0 so_far.1 (so_far.3 under) (c.in-More.ensures.any_moment (so_far.2 under)),
      λ r run. c.in-More.ensures.run r (so_far.4 r run),
      λ beside. c.in-More.ensures.beside (so_far.5 beside),
      one_more _ _ _ _ _ _ so_far.6 c.in-More.ensures.call,
    )

pub returns-in-Done-clause-any_moment : goal.returns-in-Done-clause-any_moment
returns-in-Done-clause-any_moment g c = λ under.
    let so_far = c.loop-next.invariant in
    batch_goes_on _ _ _ _ _ _ _ so_far.0 so_far.1 (so_far.3 under) (c.in-Done.ensures.any_moment (so_far.2 under))

pub returns-in-Done-clause-rests : goal.returns-in-Done-clause-rests
returns-in-Done-clause-rests g c = λ under beside.
    let so_far = c.loop-next.invariant in
    ((c.in-Done.ensures.durable (so_far.2 under)).0, c.in-Done.ensures.paused (so_far.2 under) (so_far.5 beside))

pub returns-in-Done-clause-run : goal.returns-in-Done-clause-run
returns-in-Done-clause-run g c = λ r run. c.in-Done.ensures.run r (c.loop-next.invariant.4 r run)

pub returns-in-Failed-clause-any_moment : goal.returns-in-Failed-clause-any_moment
returns-in-Failed-clause-any_moment g c = λ under.
    let so_far = c.loop-next.invariant in
    batch_goes_on _ _ _ _ _ _ _ so_far.0 so_far.1 (so_far.3 under) (c.in-Failed.ensures.any_moment (so_far.2 under))

pub returns-in-Failed-clause-run : goal.returns-in-Failed-clause-run
returns-in-Failed-clause-run g c = λ r run. c.in-Failed.ensures.run r (c.loop-next.invariant.4 r run)

pub returns-in-Done-clause-calls : goal.returns-in-Done-clause-calls
returns-in-Done-clause-calls g c = all_made _ _ _ _ _ c.loop-next.invariant.6 c.in-Done.ensures.call

pub returns-in-Failed-clause-calls : goal.returns-in-Failed-clause-calls
returns-in-Failed-clause-calls g c = one_failed _ _ _ _ _ _ c.loop-next.invariant.6 c.in-Failed.ensures.call
