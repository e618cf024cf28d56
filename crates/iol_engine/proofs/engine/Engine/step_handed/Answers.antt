use Rattle.std.proofs.Common.{◌≡◌, ◌<◌, ◌-◌, ℕ, Vec, vec_len, length, Some, slice_get, refl, ap, sym, ◌∙◌, arith}
use Rattle.std.proofs.lemmas.Option.{slice_get_read}
use Rattle.std.specs.declared.alloc.Global.{Global}
use Rattle.iol_port.specs.Stage.{PortValue}
use Rattle.iol_engine.specs.Engine.{EngineView}
use Rattle.iol_engine.proofs.engine.Engine.step_handed.Goals as goal

pub returns-then-fits-clause-steps : goal.returns-then-fits-clause-steps
returns-then-fits-clause-steps g c =
    let i = c.self.inside in
    let place = c.place-place.result in
    let at : place ≡ c.args.port - 1 = omega (arith, c.place-place.ensures.place) in
    let within : place < length i.connections.items =
    omega (
      arith,
      c.if-place-len.true,
      c.len.ensures,
      ap (λ (v : Vec PortValue Global). vec_len v) c.deref.ensures,
      c.self.invariant.places.count,
      i.machines.value.ok.0,
    ) in
    let found = slice_get_read i.connections.items (length i.connections.items) place c.index.result.now refl within c.index.ensures in
    record {
      linked = c.step.new.link;
      on =
          ap (slice_get c.args.self.now.connections) (sym at)
          ∙ (ap (λ (e : EngineView). slice_get e.connections place) (sym c.self.view_is)
          ∙ (found ∙ ap (λ (n : ℕ). Some n) (c.if-index-number.true ∙ c.number.ensures)));
      makes = c.step.ensures.steps;
      connections = c.step.ensures.connections;
      told_is = c.step.ensures.told;
    }
