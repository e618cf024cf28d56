use Rattle.std.proofs.Common.{rules}
use Rattle.iol_flush.proofs.Steps.{stays_in_step}
use Rattle.iol_flush.proofs.flusher.Flusher.disk_step.Goals as goal

pub invariant_of-self : goal.invariant_of-self
invariant_of-self g c = (
  stays_in_step g.D.SectorDisk.disk g.F.Name.front.start c.self.inside.publisher c.self.inside.stage c.replace_with.new.dest
      c.replace_with.result
      c.replace_with.ensures.0 c.self.invariant.0,
  c.replace_with.ensures.1.0,
)

pub returns-clause-step : goal.returns-clause-step
returns-clause-step g c = search rules
