-- What an engine has reported is lawful.
use Rattle.iol_front.specs.Fronts.{Start}
use Rattle.iol_engine.proofs.Engines.{engine_runs}
use Rattle.iol_engine.specs.Engine.{EngineView, IsEngine, any_steps, itself, trace_of}
use Rattle.iol_headline.proofs.Everywhere.{lawful}
use Rattle.iol_headline.specs.Laws.{IsLawful}

pub engine_lawful : (start : Start) (engine : EngineView) → IsEngine start engine → IsLawful start.number start.state (trace_of engine)
engine_lawful start engine is =
    lawful start.number start.state itself any_steps is.counted is.begun (trace_of engine) engine.connections is.runs.count
    (engine_runs start engine is) is.rise
