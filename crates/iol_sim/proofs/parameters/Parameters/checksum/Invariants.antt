use Rattle.std.proofs.Common.{◌≡◌, ◌≤◌, ◌*◌, ◌+◌, ◌^◌, take, length}
use Rattle.iol_sim.specs.Parameters.{weighted, all_octets}
use Rattle.iol_sim.proofs.parameters.Parameters.checksum.Given as goal

-- the octets of the parameters so far, each times its place
abbrev pub invariant-loop-place : goal.invariant-loop-place
invariant-loop-place l = record {
  summed : l.sum ≡ weighted 1 (all_octets (take l.place l.fn.self));
  counted : l.next ≡ 1 + length (all_octets (take l.place l.fn.self));
  small : l.sum ≤ 2 ^ 34 * l.place;
  short : l.next ≤ 1 + 232 * l.place;
}
