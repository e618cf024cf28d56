use Rattle.std.proofs.Common.{◌≤◌, length, refl, ap, sym, subst}
use Rattle.iol_core.specs.Core.{CoreView}
use Rattle.iol_engine.specs.Engine.{EngineView}
use Rattle.iol_engine.proofs.Engines.{engine_stays}
use Rattle.iol_engine.proofs.engine.Engine.meet.Goals as goal

pub invariant_of-self : goal.invariant_of-self
invariant_of-self g c =
    let i = c.self.inside in
    let core = c.meet.new.self in
    let old : EngineView =
    record { core = i.core; machines = i.machines.value.items; connections = i.connections.items; told = i.trail.told } in
    let new : EngineView =
    record { core = core; machines = i.machines.value.items; connections = i.connections.items; told = i.trail.told } in
    let is = c.meet.ensures.others in
    engine_stays g.F.Name.front.start old new refl refl refl c.meet.ensures.kept.0 (ap (λ (k : CoreView). k.queue) is)
    (ap (λ (k : CoreView). k.durable) is) (ap (λ (k : CoreView). k.number) is)
    (subst (λ (k : CoreView). k.flight ≤ length k.queue) (sym is) c.self.invariant.stands.flight) c.self.invariant
