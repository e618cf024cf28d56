use Rattle.std.proofs.Common.{◌≡◌, ◌+◌, ◌*◌, ◌++◌, length, take}
use Rattle.std.specs.List.{flat_map}
use Rattle.iol_wire.specs.Requests.{octet_word}
use Rattle.iol_wire.proofs.writing.write_octets.Given as goal

abbrev pub invariant-loop-octet : goal.invariant-loop-octet
invariant-loop-octet l = record {
  written : l.line.items ≡ l.initial.line.items ++ flat_map octet_word (take l.octet-index l.octets);
  count : length l.line.items ≡ length l.initial.line.items + 3 * l.octet-index;
}
