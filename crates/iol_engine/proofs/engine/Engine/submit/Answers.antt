use Rattle.std.proofs.Common.{◌++◌, List, refl, ap, ◌∙◌}
use Rattle.iol_core.specs.Events.{Event}
use Rattle.iol_engine.specs.Engine.{EngineView}
use Rattle.iol_engine.proofs.Engines.{engine_submits}
use Rattle.iol_engine.proofs.engine.Engine.submit.Goals as goal

pub invariant_of-self : goal.invariant_of-self
invariant_of-self g c =
    let i = c.self.inside in
    let answer = c.submit-answer.result in
    let old : EngineView =
    record { core = i.core; machines = i.machines.value.items; connections = i.connections.items; told = i.trail.told } in
    let new : EngineView =
    record {
      core = c.submit-answer.new.self;
      machines = i.machines.value.items;
      connections = i.connections.items;
      told = c.followed_by-self-inside.result.told;
    } in
    engine_submits g.F.Name.front.start old new c.args.change answer refl refl c.submit-answer.ensures
    (c.followed_by-self-inside.ensures ∙ ap (λ (es : List Event). i.trail.told ++ es) c.of_answer.ensures)
    c.self.invariant
