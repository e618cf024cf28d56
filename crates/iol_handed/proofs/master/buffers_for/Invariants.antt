use Rattle.std.proofs.Common.{◌≡◌, length, map, replicate}
use Rattle.iol_engine.specs.Handed.{handed_number}
use Rattle.iol_handed.proofs.master.buffers_for.Given as goal

-- there is a link for each port that was counted, on its first connection
abbrev pub invariant-loop : goal.invariant-loop
invariant-loop l = (length l.links.items ≡ l.counter) × (map handed_number l.links.items ≡ replicate l.counter 0)
