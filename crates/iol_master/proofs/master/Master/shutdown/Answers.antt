use Rattle.std.proofs.Common.{subst}
use Rattle.iol_journal.specs.Journals.{JournalView}
use Rattle.iol_master.specs.Endings.{IsEnding}
use Rattle.iol_master.proofs.master.Master.shutdown.Goals as goal

pub returns-clause-ending : goal.returns-clause-ending
returns-clause-ending g c =
    c.settle.ensures.ending c.args.self
    (subst (λ (j : JournalView g.row.D.Denot). IsEnding g.D.SectorDisk.disk g.F.Name.front.start j c.end.result) c.self.view_is
    c.end.ensures)
