use Rattle.std.proofs.Common.{Option, refl, ap, sym, ◌∙◌}
use Rattle.iol_core.specs.Core.{CoreView}
use Rattle.iol_core.specs.declared.stop.StopCause.{StopCause}
use Rattle.iol_engine.specs.Engine.{EngineView}
use Rattle.iol_engine.proofs.Engines.{engine_fails}
use Rattle.iol_engine.proofs.engine.Engine.fail.Goals as goal

pub invariant_of-self : goal.invariant_of-self
invariant_of-self g c =
    let i = c.self.inside in
    let old : EngineView =
    record { core = i.core; machines = i.machines.value.items; connections = i.connections.items; told = i.trail.told } in
    let new : EngineView =
    record {
      core = c.stop.new.self;
      machines = i.machines.value.items;
      connections = i.connections.items;
      told = c.followed_by-self-inside.result.told;
    } in
    engine_fails g.F.Name.front.start old new refl refl
    (c.stop.ensures
    ∙ ap (λ (s : Option StopCause). record i.core { stopped = s }) (sym (ap (λ (k : CoreView). k.stopped) c.stop.ensures)))
    c.followed_by-self-inside.ensures c.self.invariant
