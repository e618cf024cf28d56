use Rattle.std.proofs.Common.{inr, subst}
use Rattle.iol_master.specs.Endings.{IsEnding}
use Rattle.iol_master.specs.declared.ending.Ending.{Ending}
use Rattle.iol_master.proofs.master.disk_of.Goals as goal

pub returns-in-Closed : goal.returns-in-Closed
returns-in-Closed g c = λ first ends.
    inr (
      c.in-Closed.journal,
      c.in-Closed.field-1,
      subst (λ (e : Ending g.row.D.Denot g.row.F.Denot). IsEnding g.D.SectorDisk.disk g.F.Name.front.start first e) c.in-Closed.is ends,
      c.disk.ensures,
    )

pub returns-in-Unwritten : goal.returns-in-Unwritten
returns-in-Unwritten g c = λ first ends.
    inr (
      c.in-Unwritten.journal,
      c.in-Unwritten.field-1,
      subst (λ (e : Ending g.row.D.Denot g.row.F.Denot). IsEnding g.D.SectorDisk.disk g.F.Name.front.start first e) c.in-Unwritten.is ends,
      c.disk-in-Unwritten.ensures,
    )
