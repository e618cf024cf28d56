use Rattle.std.proofs.Common.{◌≡◌, ◌+◌, ℕ, List, Vec, length, ap, sym, ◌∙◌, arith}
use Rattle.std.proofs.lemmas.List.{length-map}
use Rattle.std.specs.declared.alloc.Global.{Global}
use Rattle.iol_types.specs.Command.{CommandValue}
use Rattle.iol_types.specs.State.{State}
use Rattle.iol_core.specs.Core.{CoreView}
use Rattle.iol_port.specs.Stage.{PortValue}
use Rattle.iol_engine.specs.Engine.{EngineView}
use Rattle.iol_engine.specs.Ports.{new_machines}
use Rattle.iol_engine.proofs.Engines.{fresh_engine}
use Rattle.iol_engine.proofs.engine.Engine.new.Goals as goal

pub invariant_of-result : goal.invariant_of-result
invariant_of-result g c =
    let start = g.F.Name.front.start in
    let core = c.in_ok-core.core in
    let connections = c.in_ok-connections.connections in
    let is = c.in_ok-core.ensures in
    let places : length connections.items ≡ length c.args.state =
    ap (λ (ns : List ℕ). length ns) c.in_ok-connections.ensures ∙ (length-map c.args.links.now g.L.DeviceLink.number ∙ c.requires.ports) in
    let new : EngineView =
    record {
      core = core;
      machines = c.new_unchecked.result.value.items;
      connections = connections.items;
      told = c.new-2.result.told;
    } in
    let none : start.number + length c.args.pass ≡ start.number =
    omega (arith, ap (λ (cs : List CommandValue). length cs) c.requires.pass) in
    fresh_engine start new (ap (λ (k : CoreView). k.queue) is) (ap (λ (k : CoreView). k.durable) is ∙ c.requires.state)
    (ap (λ (k : CoreView). k.number) is ∙ none) (ap (λ (k : CoreView). k.seen) is ∙ c.requires.pass) (ap (λ (k : CoreView). k.flight) is)
    (ap (λ (ms : Vec PortValue Global). ms.items) c.new_unchecked.ensures ∙ c.in_ok-machines.ensures
    ∙ ap new_machines (c.ports-ports.ensures.count ∙ sym places))
    (places ∙ ap (λ (s : State). length s) c.requires.state) c.new-2.ensures
