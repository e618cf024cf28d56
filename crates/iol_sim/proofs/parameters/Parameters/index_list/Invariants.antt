use Rattle.std.proofs.Common.{◌≡◌, take, length}
use Rattle.std.specs.Map.{keys_of}
use Rattle.iol_sim.specs.declared.parameters.TheConstants.{MOST_PARAMETERS}
use Rattle.iol_sim.proofs.parameters.Parameters.index_list.Given as goal

-- the keys so far
abbrev pub invariant-loop-place : goal.invariant-loop-place
invariant-loop-place l = record {
  listed : take l.place l.keys ≡ keys_of (take l.place l.fn.self);
  long : length l.keys ≡ MOST_PARAMETERS;
}
