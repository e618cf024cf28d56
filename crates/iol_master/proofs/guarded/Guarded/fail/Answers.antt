use Rattle.std.proofs.Common.{length, map, ap, arith}
use Rattle.std.proofs.lemmas.List.{length-map}
use Rattle.iol_core.specs.Core.{CoreView}
use Rattle.iol_master.specs.Callers.{asked}
use Rattle.iol_master.proofs.Waiting.{nobody_left}
use Rattle.iol_master.proofs.guarded.Guarded.fail.Goals as goal

-- each place is kept, and no caller waits there
pub invariant_of-self : goal.invariant_of-self
invariant_of-self g c =
    let i = c.self.inside in (
      nobody_left i.engine.core.queue c.fail.new.self.core.queue (map asked i.callers.items) _ (length i.callers.items) c.self.invariant.0
          (ap (λ (core : CoreView). length core.queue) c.fail.ensures.core) (length-map i.callers.items asked) c.let_go.ensures.none,
      omega (arith, c.self.invariant.1, c.let_go.ensures.room),
    )
