use Rattle.std.proofs.Common.{IfOk, subst}
use Rattle.std.proofs.lemmas.Result.{IfOk-weaker}
use Rattle.iol_journal.specs.BegunParts.{IsBegun}
use Rattle.iol_journal.specs.Journals.{JournalView}
use Rattle.iol_journal.proofs.journal.Journal.new_checkpoint.Goals as goal

pub returns-clause-begun : goal.returns-clause-begun
returns-clause-begun g c =
    let d = g.D.SectorDisk.disk in
    subst (λ (v : JournalView g.row.D.Denot). IfOk c.new.result (IsBegun (d v.disk) v.standing)) c.self.view_is
    (IfOk-weaker c.new.result _ _ (λ b is. is (d c.self.inside.disk) c.self.invariant.0) c.new.ensures.begun)
