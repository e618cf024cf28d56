use Rattle.std.proofs.Common.{◌≡◌, Option, Some, None, IfNone, IfSome, refl, sym, ◌∙◌, arith}
use Rattle.iol_types.specs.State.{port_numbered}
use Rattle.iol_port.specs.declared.status.PortStatus.{PortStatus}
use Rattle.iol_engine.proofs.EngineStatuses.{engine_lacks, engine_shows}
use Rattle.iol_engine.specs.Engine.{trace_of}
use Rattle.iol_headline.proofs.Engines.{engine_lawful}
use Rattle.iol_headline.proofs.engine.status.Goals as goal
use Rattle.iol_headline.specs.Statuses.{IsLastReported}

if_some : (P : PortStatus → Type 0) (found : Option PortStatus) → ((status : PortStatus) → found ≡ Some status → P status)
    → IfSome found P
if_some P None each = tt
if_some P (Some status) each = each status refl

pub returns-clause-reported : goal.returns-clause-reported
returns-clause-reported g c =
    let start = g.F.Name.front.start in
    let engine = c.args.engine.now in
    if_some (IsLastReported start c.args.port) c.status.result (λ status is. record {
      events = trace_of engine;
      lawful = engine_lawful start engine c.is_sound.ensures;
      shown =
          engine_shows start engine c.is_sound.ensures c.args.port status (omega (arith, c.place-place.ensures.place))
          (sym c.status.ensures ∙ is);
    })

if_none : (P : Type 0) (found : Option PortStatus) → (found ≡ None → P) → IfNone found P
if_none P None none = none refl
if_none P (Some status) none = tt

pub returns-clause-unknown : goal.returns-clause-unknown
returns-clause-unknown g c =
    let start = g.F.Name.front.start in
    if_none (port_numbered start.state c.args.port ≡ None) c.status.result
    (λ is. engine_lacks start c.args.engine.now c.is_sound.ensures c.args.port (sym c.status.ensures ∙ is))
