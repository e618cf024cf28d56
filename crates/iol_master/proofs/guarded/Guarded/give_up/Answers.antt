use Rattle.std.proofs.Common.{length, map, refl, ap, arith}
use Rattle.std.proofs.lemmas.List.{length-map}
use Rattle.iol_engine.specs.Engine.{EngineView}
use Rattle.iol_master.specs.Callers.{asked}
use Rattle.iol_master.proofs.Waiting.{nobody_left}
use Rattle.iol_master.proofs.guarded.Guarded.give_up.Goals as goal

-- each place is kept, and no caller waits there
pub invariant_of-self : goal.invariant_of-self
invariant_of-self g c =
    let i = c.self.inside in (
      nobody_left i.engine.core.queue i.engine.core.queue (map asked i.callers.items) _ (length i.callers.items) c.self.invariant.0 refl
          (length-map i.callers.items asked) c.let_go.ensures.none,
      omega (arith, c.self.invariant.1, c.let_go.ensures.room),
    )

pub invariant_of-self-2 : goal.invariant_of-self-2
invariant_of-self-2 g c =
    let i = c.self.inside in (
      nobody_left i.engine.core.queue c.stop.new.self.core.queue (map asked i.callers.items) _ (length i.callers.items) c.self.invariant.0
          (ap (λ (engine : EngineView). length engine.core.queue) c.stop.ensures) (length-map i.callers.items asked) c.let_go.ensures.none,
      omega (arith, c.self.invariant.1, c.let_go.ensures.room),
    )
