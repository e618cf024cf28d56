use Rattle.std.proofs.Common.{ap}
use Rattle.iol_master.specs.Callers.{GuardedView}
use Rattle.iol_master.proofs.guarded.Guarded.end_ports.Goals as goal

pub invariant_of-self : goal.invariant_of-self
invariant_of-self g c = c.self.invariant

pub returns-clause-core : goal.returns-clause-core
returns-clause-core g c = (ap (λ (v : GuardedView). v.engine.core) c.self.view_is, ap (λ (v : GuardedView). v.callers) c.self.view_is)
