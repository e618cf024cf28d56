use Rattle.std.proofs.Common.{◌≡◌, ◌+◌, ◌++◌, ◌≤◌, ℕ, Bool, List, length, filter_map, is_some}
use Rattle.std.specs.List.{list_all}
use Rattle.iol_wire.specs.Numeral.{hexadecimal}
use Rattle.iol_wire.specs.Words.{words}
use Rattle.iol_wire.proofs.reading.octets_within.Given as goal

abbrev is_octet : List ℕ → Bool
is_octet word = is_some (hexadecimal 2 word)

abbrev pub invariant-loop-word : goal.invariant-loop-word
invariant-loop-word g l = record {
  all : list_all is_octet (words l.rest) ≡ list_all is_octet (words l.left);
  octets : filter_map (hexadecimal 2) (words l.rest) ≡ l.octets.items ++ filter_map (hexadecimal 2) (words l.left);
  count : length (words l.rest) ≡ length l.octets.items + length (words l.left);
  few : length l.octets.items ≤ g.row.MOST;
}

abbrev pub decreases-loop-word : goal.decreases-loop-word
decreases-loop-word g l = length l.left
