use Rattle.std.proofs.Common.{◌≡◌, ◌≤◌, length, take}
use Rattle.iol_journal.specs.Body.{records_of, values}
use Rattle.iol_core.proofs.batches.longest.Given as goal

-- the octets of the commands so far, which fit
abbrev pub invariant-loop-count : goal.invariant-loop-count
invariant-loop-count l = record {
  octets : l.octets ≡ length (records_of (take l.count (values l.queue.items)));
  fits : l.octets ≤ l.room;
}
