use Rattle.std.proofs.Common.{◌≡◌, None, sym, subst}
use Rattle.iol_types.specs.Port.{port_of}
use Rattle.iol_types.specs.State.{Port, rollback_fault}
use Rattle.iol_types.proofs.PortLemmas.{stand_exchanged}
use Rattle.iol_types.proofs.port_state.PortState.roll_back.Goals as goal

pub invariant_of-self : goal.invariant_of-self
invariant_of-self c =
    let port = port_of c.self.inside in
    let there : rollback_fault port ≡ None = subst (λ (p : Port). rollback_fault p ≡ None) (sym c.self.view_is) c.requires in
    rw (c.swap.ensures.x_after, c.swap.ensures.y_after) (stand_exchanged port.config port.stored port.previous there c.self.invariant)
