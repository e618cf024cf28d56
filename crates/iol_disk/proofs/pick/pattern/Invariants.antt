use Rattle.std.proofs.Common.{◌≡◌, ℕ, ◌<◌, ◌%◌, ◌==◌, if◌then◌else◌, length, slice_index}
use Rattle.iol_disk.proofs.pick.pattern.Given as goal
use Rattle.iol_disk.specs.declared.disk.TheConstants.{SECTOR_OCTETS}

abbrev pub invariant-loop-i : goal.invariant-loop-i
invariant-loop-i l = record {
  whole : length l.octets ≡ SECTOR_OCTETS;
  done : (k : ℕ) → k < l.i → slice_index l.octets k ≡ (if k % 2 == 0 then 0xA5 else 0x5A);
}
