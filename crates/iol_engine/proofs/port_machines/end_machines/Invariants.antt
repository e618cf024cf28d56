use Rattle.std.proofs.Common.{◌≡◌}
use Rattle.iol_engine.proofs.port_machines.end_machines.Given as goal

abbrev pub invariant-loop-machine : goal.invariant-loop-machine
invariant-loop-machine g l = l.core.durable ≡ l.initial.core.durable

abbrev pub decreases-loop-machine : goal.decreases-loop-machine
decreases-loop-machine g l = goal.left-loop-machine g l
