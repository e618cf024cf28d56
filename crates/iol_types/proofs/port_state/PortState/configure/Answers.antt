use Rattle.std.proofs.Common.{rules, ◌≡◌, true, refl}
use Rattle.iol_types.specs.Config.{keeps_set}
use Rattle.iol_types.specs.Port.{port_of}
use Rattle.iol_types.proofs.PortLemmas.{still_stand}
use Rattle.iol_types.proofs.port_state.PortState.configure.Goals as goal
use Rattle.iol_types.proofs.port_state.PortState.configure.Goals.{then-not-keeps_set+in-Some-1, then-not-keeps_set+in-None-1}
use Rattle.iol_types.proofs.port_state.PortState.configure.Goals.{else-not-keeps_set}

pub returns : goal.returns
returns c = search rules

pub invariant_of-self : goal.invariant_of-self
invariant_of-self c =
    elim c.if-not-keeps_set.branch [
      | then-not-keeps_set+in-Some-1 w ↦ rw w.self-inside-is refl
      | then-not-keeps_set+in-None-1 w ↦ rw w.self-inside-is refl
      | else-not-keeps_set w ↦
          let port = port_of c.self.inside in
          let keeps : keeps_set port.config c.args.config ≡ true = search rules in
          rw w.self-inside-is (still_stand port.config c.args.config port.stored port.previous keeps c.self.invariant)
    ]
