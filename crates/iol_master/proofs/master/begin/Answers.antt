use Rattle.std.proofs.Common.{◌≡◌, refl, sym, ap, ◌∙◌, subst}
use Rattle.iol_journal.specs.Journals.{JournalView}
use Rattle.iol_master.specs.Endings.{IsEnding}
use Rattle.iol_master.specs.declared.flushing.FromCharge.{FromCharge}
use Rattle.iol_master.proofs.master.begin.Goals as goal

-- if no thread is made for the flusher, the thread that starts the master does its work
pub returns-in-Err-clause-fault : goal.returns-in-Err-clause-fault
returns-in-Err-clause-fault g c =
    let same : c.in-Err.refused.value.2 ≡ c.args.charge = ap (λ f. f.2) c.in-Err.ensures.err in (
      c.disk_of.ensures c.args.charge
          (subst (λ (first : JournalView g.row.D.Denot). IsEnding g.D.SectorDisk.disk g.F.Name.front.start first c.spawn_with.result) same
          c.spawn_with.ensures),
      refl,
    )

-- if a worker's thread is not made, the threads that were started are ended as by `shutdown`
pub returns-in-Err-start_workers-clause-fault : goal.returns-in-Err-start_workers-clause-fault
returns-in-Err-start_workers-clause-fault g c =
    let promise : c.in-Ok.flusher.promise.0.value ≡ c.args.charge =
    ap (λ (p : FromCharge g.row.D.Denot g.row.F.Denot). p.0.value) c.in-Ok.ensures.ok ∙ c.of.ensures in (
      c.disk_of-in-Err-start_workers.ensures c.args.charge
          (subst (λ (first : JournalView g.row.D.Denot). IsEnding g.D.SectorDisk.disk g.F.Name.front.start first c.end.result) promise
          c.end.ensures),
      refl,
    )

pub returns-in-Ok-start_workers-clause-started : goal.returns-in-Ok-start_workers-clause-started
returns-in-Ok-start_workers-clause-started g c =
    ap (λ (p : FromCharge g.row.D.Denot g.row.F.Denot). p.0.value) c.in-Ok.ensures.ok ∙ c.of.ensures

pub spawn_with-started-requires-clause-keeps : goal.spawn_with-started-requires-clause-keeps
spawn_with-started-requires-clause-keeps g c lifetimes outlives end ends =
    subst (λ (first : JournalView g.row.D.Denot). IsEnding g.D.SectorDisk.disk g.F.Name.front.start first end) (sym c.of.ensures) ends
