use Rattle.std.proofs.Common.{◌≡◌, ◌≤◌, ◌*◌, ◌+◌, ◌^◌, take}
use Rattle.iol_sim.specs.Parameters.{weighted}
use Rattle.iol_sim.proofs.parameters.weighted.Given as goal

-- the octets so far, each times its place
abbrev pub invariant-loop-octet : goal.invariant-loop-octet
invariant-loop-octet l = record {
  summed : l.sum ≡ weighted l.first (take l.octet-index l.octets);
  at : l.place ≡ l.first + l.octet-index;
  small : l.sum ≤ 2 ^ 25 * l.octet-index;
}
