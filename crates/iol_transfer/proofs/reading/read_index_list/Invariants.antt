use Rattle.std.proofs.Common.{◌≡◌, true, length}
use Rattle.iol_transfer.specs.List.{reading_of, begins_with_key}
use Rattle.iol_transfer.proofs.Readings.{read_after}
use Rattle.iol_transfer.proofs.reading.read_index_list.Given as goal

-- the rest is read after the keys so far; the rest begins with a key only if the octets begin with
-- one
abbrev pub invariant-loop-rest : goal.invariant-loop-rest
invariant-loop-rest l = record {
  reads : reading_of l.octets ≡ read_after l.keys.items l.rest;
  met : begins_with_key l.rest ≡ true → begins_with_key l.octets ≡ true;
}

abbrev pub decreases-loop-rest : goal.decreases-loop-rest
decreases-loop-rest l = length l.rest
