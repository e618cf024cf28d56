use Rattle.std.proofs.Common.{◌≡◌, take}
use Rattle.iol_journal.specs.Body.{values}
use Rattle.iol_core.proofs.batches.is_front.Given as goal

abbrev pub invariant-loop-place : goal.invariant-loop-place
invariant-loop-place g l = take l.place l.committed.commands ≡ take l.place (values l.queue.items)
