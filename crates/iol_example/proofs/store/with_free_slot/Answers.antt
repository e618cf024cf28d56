use Rattle.std.proofs.Common.{List, length, refl, sym, ap, ◌∙◌, subst, arith}
use Rattle.iol_disk.specs.Calls.{Call, Made, FailedIn}
use Rattle.iol_journal.specs.CheckpointViews.{CheckpointingView}
use Rattle.iol_journal.specs.Journals.{JournalView}
use Rattle.iol_journal.specs.Running.{IsRunAtRest}
use Rattle.iol_example.proofs.CallLaws.{none_yet, one_more, all_made, one_failed, same_end, same_calls, none_free, full_slot}
use Rattle.iol_example.proofs.StoreLaws.{from_rest, none_paused, checkpoint_goes_on}
use Rattle.iol_example.proofs.store.with_free_slot.Goals as goal

pub returns-then-has_free_slot-clause-any_moment : goal.returns-then-has_free_slot-clause-any_moment
returns-then-has_free_slot-clause-any_moment g c = λ rests. from_rest _ _ c.args.journal.standing c.args.journal.idle refl rests.0

pub returns-in-Err-clause-any_moment : goal.returns-in-Err-clause-any_moment
returns-in-Err-clause-any_moment g c = λ rests.
    from_rest _ _ c.args.journal.standing c.args.journal.idle
    (ap (λ (j : JournalView g.row.D.Denot). g.D.SectorDisk.disk j.disk) c.in-Err.ensures.back) rests.0

pub returns-in-Err-clause-run : goal.returns-in-Err-clause-run
returns-in-Err-clause-run g c = λ r run.
    subst (λ (j : JournalView g.row.D.Denot). IsRunAtRest g.D.SectorDisk.disk r j) (sym c.in-Err.ensures.back) run

pub loop-next-init : goal.loop-next-init
loop-next-init g c =
    let standing = ap (λ (k : CheckpointingView g.row.D.Denot). k.standing) c.in-Ok.ensures.begun in
    let begun = ap (λ (k : CheckpointingView g.row.D.Denot). k.begun) c.in-Ok.ensures.begun in
    let disk = ap (λ (k : CheckpointingView g.row.D.Denot). g.D.SectorDisk.disk k.disk) c.in-Ok.ensures.begun in (
      standing,
      same_end _ _ _ _ standing begun,
      λ rests. c.in-Ok.ensures.underway rests.0 rests.1,
      λ rests. from_rest _ _ c.args.journal.standing c.args.journal.idle disk rests.0,
      c.in-Ok.ensures.run,
      none_yet _ _ _ _ (same_calls _ _ _ _ standing begun) disk,
    )

pub loop-next-smaller : goal.loop-next-smaller
loop-next-smaller g c = omega (arith, ap (λ (calls : List Call). length calls) c.in-More.ensures.call.order)

pub loop-next-preserved : goal.loop-next-preserved
loop-next-preserved g c =
    let so_far = c.loop-next.invariant in (
      c.in-More.ensures.more.standing ∙ so_far.0,
      c.in-More.ensures.more.end ∙ so_far.1,
      λ rests. c.in-More.ensures.underway (so_far.2 rests),
      λ rests. checkpoint_goes_on _ _ _ _ _ so_far.0 (so_far.3 rests) (c.in-More.ensures.any_moment (so_far.2 rests)),
      λ r run. c.in-More.ensures.run r (so_far.4 r run),
      one_more _ _ _ _ _ _ so_far.5 c.in-More.ensures.call,
    )

pub returns-in-Done-clause-any_moment : goal.returns-in-Done-clause-any_moment
returns-in-Done-clause-any_moment g c = λ rests.
    let so_far = c.loop-next.invariant in
    checkpoint_goes_on _ _ _ _ _ so_far.0 (so_far.3 rests) (c.in-Done.ensures.any_moment (so_far.2 rests))

pub returns-in-Done-clause-rests : goal.returns-in-Done-clause-rests
returns-in-Done-clause-rests g c = λ rests.
    none_paused g.D.SectorDisk.disk c.in-Done.journal (c.in-Done.ensures.durable (c.loop-next.invariant.2 rests)).0
    c.in-Done.ensures.done.none

pub returns-in-Done-clause-slot : goal.returns-in-Done-clause-slot
returns-in-Done-clause-slot g c =
    c.in-Done.ensures.done.standing ∙ c.loop-next.invariant.1 ∙ full_slot c.args.journal (sym c.has_free_slot.ensures.free
    ∙ c.if-has_free_slot.false)

pub returns-in-Done-clause-run : goal.returns-in-Done-clause-run
returns-in-Done-clause-run g c = λ r run. c.in-Done.ensures.run r (c.loop-next.invariant.4 r run)

pub returns-in-Failed-clause-any_moment : goal.returns-in-Failed-clause-any_moment
returns-in-Failed-clause-any_moment g c = λ rests.
    let so_far = c.loop-next.invariant in
    checkpoint_goes_on _ _ _ _ _ so_far.0 (so_far.3 rests) (c.in-Failed.ensures.any_moment (so_far.2 rests))

pub returns-in-Failed-clause-run : goal.returns-in-Failed-clause-run
returns-in-Failed-clause-run g c = λ r run. c.in-Failed.ensures.run r (c.loop-next.invariant.4 r run)

pub returns-in-Done-clause-calls : goal.returns-in-Done-clause-calls
returns-in-Done-clause-calls g c =
    let d = g.D.SectorDisk.disk in
    let j = c.args.journal in
    subst (λ (calls : List Call). Made calls (d j.disk) (d c.in-Done.journal.disk))
    (none_free j (sym c.has_free_slot.ensures.free ∙ c.if-has_free_slot.false))
    (all_made _ _ _ _ _ c.loop-next.invariant.5 c.in-Done.ensures.call)

pub returns-in-Failed-clause-calls : goal.returns-in-Failed-clause-calls
returns-in-Failed-clause-calls g c =
    let d = g.D.SectorDisk.disk in
    let j = c.args.journal in
    subst (λ (calls : List Call). FailedIn calls c.in-Failed.fault (d j.disk) (d c.in-Failed.disk))
    (none_free j (sym c.has_free_slot.ensures.free ∙ c.if-has_free_slot.false))
    (one_failed _ _ _ _ _ _ c.loop-next.invariant.5 c.in-Failed.ensures.call)
