use Rattle.std.proofs.Common.{◌≡◌, ◌≤◌, ◌*◌, take}
use Rattle.iol_types.specs.DataSet.{octets_of}
use Rattle.iol_sim.proofs.parameters.Parameters.size.Given as goal

-- the size of the parameters so far
abbrev pub invariant-loop-place : goal.invariant-loop-place
invariant-loop-place l = record {
  counted : l.octets ≡ octets_of (take l.place l.fn.self);
  bounded : l.octets ≤ 236 * l.place;
}
