use Rattle.std.proofs.Common.{◌≡◌, ◌+◌, ◌++◌, map}
use Rattle.std.specs.List.{range_with_len}
use Rattle.iol_disk.specs.Calls.{write}
use Rattle.iol_layout.specs.AreaPlans.{write_of}
use Rattle.iol_layout.specs.Octets.{sector_of}
use Rattle.iol_layout.proofs.records.push_record.Given as goal

abbrev pub invariant-loop-j : goal.invariant-loop-j
invariant-loop-j l =
    map write_of l.records.items
    ≡ map write_of l.fn.records.items ++ map (λ k. write (l.fn.first + k) (sector_of l.fn.octets k)) (range_with_len 0 l.j)
