use Rattle.std.proofs.Common.{◌≡◌, take}
use Rattle.iol_journal.specs.Body.{values}
use Rattle.iol_core.proofs.batches.copy_front.Given as goal

abbrev pub invariant-loop-place : goal.invariant-loop-place
invariant-loop-place l = values l.commands.items ≡ take l.place (values l.queue.items)
