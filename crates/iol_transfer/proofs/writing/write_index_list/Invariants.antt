use Rattle.std.proofs.Common.{◌≡◌, ◌*◌, take, length}
use Rattle.std.specs.List.{flat_map}
use Rattle.iol_transfer.specs.List.{key_octets}
use Rattle.iol_transfer.proofs.writing.write_index_list.Given as goal

-- the octets of the keys so far, three each
abbrev pub invariant-loop-key : goal.invariant-loop-key
invariant-loop-key l = record {
  written : l.octets.items ≡ flat_map key_octets (take l.key-index l.keys);
  counted : length l.octets.items ≡ 3 * l.key-index;
}
