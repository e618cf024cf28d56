use Rattle.std.proofs.Common.{◌≡◌, ℕ, suc, ◌+◌, ap, ◌∙◌, length, arith, List, ◌++◌, [], ◌∷◌}
use Rattle.iol_port.specs.Stage.{PortValue, new_machine}
use Rattle.iol_engine.specs.Ports.{machines_from, new_machines}
use Rattle.iol_engine.proofs.Machines.{machines_length, machines_more}
use Rattle.iol_engine.proofs.port_machines.machines_of.Goals as goal

pub add_machine-requires-clause-room : goal.add_machine-requires-clause-room
add_machine-requires-clause-room c =
    let l = c.loop-place in
    omega (
      arith,
      l.machines.ok,
      ap (λ (ms : List PortValue). length ms) l.invariant.made,
      machines_length 0 l.place,
      l.invariant.room,
      c.loop-place-test.true,
    )

one_more : (place : ℕ) → new_machines place ++ new_machine (place + 1) ∷ [] ≡ new_machines (place + 1)
one_more place =
    let here : place + 1 ≡ 0 + place + 1 = omega arith in
    let then_ : suc place ≡ place + 1 = omega arith in
    ap (λ (n : ℕ). machines_from 0 place ++ new_machine n ∷ []) here ∙ (machines_more 0 place ∙ ap (machines_from 0) then_)

pub loop-place-preserved : goal.loop-place-preserved
loop-place-preserved c =
    let l = c.loop-place in
    record {
      made =
          c.add_machine.ensures.items
          ∙ (ap (λ (ms : List PortValue). ms ++ new_machine (l.place + 1) ∷ []) l.invariant.made ∙ one_more l.place);
      room = omega (arith, c.add_machine.ensures.room, l.invariant.room);
    }
