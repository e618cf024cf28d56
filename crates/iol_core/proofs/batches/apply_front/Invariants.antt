use Rattle.std.proofs.Common.{◌≡◌, true, take, drop}
use Rattle.std.specs.VecDeque.{deque_capacity}
use Rattle.iol_types.specs.State.{after, legal}
use Rattle.iol_journal.specs.Body.{values}
use Rattle.iol_core.proofs.batches.apply_front.Given as goal

-- the commands so far are applied and removed, and the others pass
abbrev pub invariant-loop-done : goal.invariant-loop-done
invariant-loop-done l = record {
  durable : l.durable ≡ after l.initial.durable (take l._done (values l.initial.queue.items));
  queue : values l.queue.items ≡ drop l._done (values l.initial.queue.items);
  legal : legal l.durable (values l.queue.items) ≡ true;
  room : deque_capacity l.queue ≡ deque_capacity l.initial.queue;
}
