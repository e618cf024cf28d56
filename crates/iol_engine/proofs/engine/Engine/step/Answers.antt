use Rattle.std.proofs.Common.{◌≡◌, ◌<◌, ◌-◌, ◌++◌, ℕ, Vec, length, get_or, slice_get, slice_set, refl, ap, sym, ◌∙◌, subst, arith}
use Rattle.std.proofs.lemmas.Option.{slice_get_read}
use Rattle.std.specs.declared.alloc.Global.{Global}
use Rattle.iol_port.specs.Stage.{PortValue}
use Rattle.iol_engine.specs.Engine.{EngineView, IsEngine, MakesStep}
use Rattle.iol_engine.specs.Events.{told_of}
use Rattle.iol_engine.proofs.Engines.{engine_steps}
use Rattle.iol_engine.proofs.Numbered.{numbered}
use Rattle.iol_engine.proofs.engine.Engine.step.Goals as goal

pub step_port-told-requires-clause-ready : goal.step_port-told-requires-clause-ready
step_port-told-requires-clause-ready g c κs outlives =
    let i = c.self.inside in
    let place = c.place-place.result in
    let within : place < length i.machines.value.items =
    omega (arith, c.place-place.ensures.place, c.requires.there, ap (λ (e : EngineView). length e.machines) c.self.view_is) in
    let machine = slice_get_read i.machines.value.items (length i.machines.value.items) place c.index_mut.result.now refl within
    (c.index_mut.ensures.value
    ∙ ap (λ (ms : Vec PortValue Global). get_or ms.items place c.index_mut.result.now) c.deref_mut.ensures.value) in
    (c.self.invariant.places.places place c.index_mut.result.now machine).ready

pub invariant_of-self : goal.invariant_of-self
invariant_of-self g c =
    let i = c.self.inside in
    let l = g.L.DeviceLink in
    let port = c.args.port in
    let place = c.place-place.result in
    let told = c.step_port-told in
    let called = told_of told.result.called in
    let status = told_of told.result.status in
    let at : place ≡ port - 1 = omega (arith, c.place-place.ensures.place) in
    let within : place < length i.machines.value.items =
    omega (arith, c.place-place.ensures.place, c.requires.there, ap (λ (e : EngineView). length e.machines) c.self.view_is) in
    let machine = slice_get_read i.machines.value.items (length i.machines.value.items) place c.index_mut.result.now refl within
    (c.index_mut.ensures.value
    ∙ ap (λ (ms : Vec PortValue Global). get_or ms.items place c.index_mut.result.now) c.deref_mut.ensures.value) in
    let old : EngineView =
    record { core = i.core; machines = i.machines.value.items; connections = i.connections.items; told = i.trail.told } in
    let new : EngineView =
    record {
      core = told.new.core;
      machines = slice_set i.machines.value.items place told.new.machine;
      connections = slice_set i.connections.items place c.connection.result;
      told = c.followed_by-self-inside.result.told;
    } in
    let makes : MakesStep l.number l.steps port i.core told.new.core i.machines.value.items new.machines c.args.link.now told.new.link
    (called ++ status) =
    record {
      before = c.index_mut.result.now;
      after = told.new.machine;
      called = called;
      status = status;
      some = c.place-place.ensures.range.0;
      machine_is = ap (slice_get i.machines.value.items) (sym at) ∙ machine;
      steps_as = told.ensures.step;
      told_is = refl;
      last_is = ap (λ (n : ℕ). slice_set i.machines.value.items n told.new.machine) at;
    } in
    subst (λ (v : Vec PortValue Global).
    IsEngine g.F.Name.front.start (record new { machines = slice_set v.items place told.new.machine })) (sym c.deref_mut.ensures.value)
    (engine_steps g.F.Name.front.start port old new (l.number c.args.link.now) (l.number told.new.link) (called ++ status)
    (ap (λ (e : EngineView). slice_get e.connections (port - 1)) c.self.view_is ∙ c.requires.connection)
    (ap (λ (n : ℕ). slice_set i.connections.items n c.connection.result) at
    ∙ ap (λ (n : ℕ). slice_set i.connections.items (port - 1) n) c.connection.ensures)
    (numbered l.number l.steps port i.core told.new.core i.machines.value.items new.machines c.args.link.now told.new.link
    (called ++ status) makes)
    told.ensures.ready
    c.followed_by-self-inside.ensures c.self.invariant)

pub returns-clause-steps : goal.returns-clause-steps
returns-clause-steps g c =
    let i = c.self.inside in
    let l = g.L.DeviceLink in
    let port = c.args.port in
    let place = c.place-place.result in
    let told = c.step_port-told in
    let called = told_of told.result.called in
    let status = told_of told.result.status in
    let at : place ≡ port - 1 = omega (arith, c.place-place.ensures.place) in
    let within : place < length i.machines.value.items =
    omega (arith, c.place-place.ensures.place, c.requires.there, ap (λ (e : EngineView). length e.machines) c.self.view_is) in
    let machine = slice_get_read i.machines.value.items (length i.machines.value.items) place c.index_mut.result.now refl within
    (c.index_mut.ensures.value
    ∙ ap (λ (ms : Vec PortValue Global). get_or ms.items place c.index_mut.result.now) c.deref_mut.ensures.value) in
    subst (λ (e : EngineView).
    MakesStep l.number l.steps port e.core told.new.core e.machines
    (slice_set c.deref_mut.result.now.items place told.new.machine) c.args.link.now told.new.link (called ++ status)) c.self.view_is
    (record {
      before = c.index_mut.result.now;
      after = told.new.machine;
      called = called;
      status = status;
      some = c.place-place.ensures.range.0;
      machine_is = ap (slice_get i.machines.value.items) (sym at) ∙ machine;
      steps_as = told.ensures.step;
      told_is = refl;
      last_is =
          ap (λ (v : Vec PortValue Global). slice_set v.items place told.new.machine) c.deref_mut.ensures.value
          ∙ ap (λ (n : ℕ). slice_set i.machines.value.items n told.new.machine) at;
    })
