use Rattle.std.proofs.Common.{rules, subst}
use Rattle.iol_master.specs.Endings.{IsEnding}
use Rattle.iol_live.proofs.running.left_by.Goals as goal

pub returns-in-Closed-clause-left : goal.returns-in-Closed-clause-left
returns-in-Closed-clause-left g c = λ start first ends. (
  c.in-Closed.journal,
  c.in-Closed.field-1,
  subst (λ ending. IsEnding g.D.SectorDisk.disk start first ending) c.in-Closed.is ends,
  c.disk.ensures,
)

pub returns-clause-left : goal.returns-clause-left
returns-clause-left g c = search rules
