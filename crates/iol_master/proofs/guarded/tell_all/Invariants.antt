use Rattle.std.proofs.Common.{◌≡◌, drop, map}
use Rattle.std.specs.VecDeque.{deque_capacity}
use Rattle.iol_master.specs.Callers.{asked}
use Rattle.iol_master.proofs.guarded.tell_all.Given as goal

-- the callers at the first `place` places are removed, and the others are left
abbrev pub invariant-loop-place : goal.invariant-loop-place
invariant-loop-place g l = record {
  same : l.committed ≡ l.initial.committed;
  left : map asked l.callers.items ≡ drop l.place (map asked l.initial.callers.items);
  room : deque_capacity l.callers ≡ deque_capacity l.initial.callers;
}
