use Rattle.std.proofs.Common.{◌≡◌}
use Rattle.iol_live.proofs.asking.start_clients.Given as goal

-- the master is the one before the loop
abbrev pub invariant-loop-number : goal.invariant-loop-number
invariant-loop-number g l = l.master ≡ l.initial.master
