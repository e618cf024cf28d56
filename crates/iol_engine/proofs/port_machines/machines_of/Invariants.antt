use Rattle.std.proofs.Common.{◌≡◌, ◌≤◌, vec_capacity}
use Rattle.iol_engine.specs.Ports.{new_machines}
use Rattle.iol_engine.proofs.port_machines.machines_of.Given as goal

abbrev pub invariant-loop-place : goal.invariant-loop-place
invariant-loop-place l = record {
  made : l.machines.items ≡ new_machines l.place;
  room : l.ports ≤ vec_capacity l.machines;
}
