use Rattle.std.proofs.Common.{ℕ, ◌++◌, [], ◌∷◌, refl, ap, ◌∙◌}
use Rattle.iol_core.specs.Events.{Acknowledged}
use Rattle.iol_engine.specs.Engine.{EngineView}
use Rattle.iol_engine.proofs.Engines.{engine_acknowledges}
use Rattle.iol_engine.proofs.engine.Engine.acknowledge.Goals as goal

pub invariant_of-self-in-Ok-4 : goal.invariant_of-self-in-Ok-4
invariant_of-self-in-Ok-4 g c =
    let i = c.self.inside in
    let old : EngineView =
    record { core = i.core; machines = i.machines.value.items; connections = i.connections.items; told = i.trail.told } in
    let new : EngineView =
    record {
      core = c.acknowledge.new.self;
      machines = i.machines.value.items;
      connections = i.connections.items;
      told = c.followed_by-self-inside.result.told;
    } in
    engine_acknowledges g.F.Name.front.start old new c.args.committed refl refl c.in-Ok.ensures.acknowledged c.in-Ok.ensures.seen.0
    c.in-Ok.ensures.seen.1 c.in-Ok.ensures.flight
    (c.followed_by-self-inside.ensures ∙ ap (λ (n : ℕ). i.trail.told ++ Acknowledged n ∷ []) c.in-Ok.ensures.number)
    c.self.invariant
