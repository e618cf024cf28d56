use Rattle.std.proofs.Common.{◌≡◌, None, map, replicate}
use Rattle.std.specs.VecDeque.{deque_capacity}
use Rattle.iol_master.specs.Callers.{asked}
use Rattle.iol_master.proofs.guarded.let_go.Given as goal

-- `counter` places are kept, without callers
abbrev pub invariant-loop : goal.invariant-loop
invariant-loop g l = record {
  none : map asked l.callers.items ≡ replicate l.counter None;
  room : deque_capacity l.callers ≡ deque_capacity l.fn.callers;
}
