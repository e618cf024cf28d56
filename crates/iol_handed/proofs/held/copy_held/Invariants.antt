use Rattle.std.proofs.Common.{◌≡◌}
use Rattle.iol_handed.proofs.held.copy_held.Given as goal

-- nothing is copied before the sector is found
abbrev pub invariant-loop-one : goal.invariant-loop-one
invariant-loop-one l = l.octets ≡ l.fn.octets
