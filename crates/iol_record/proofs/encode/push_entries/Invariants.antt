use Rattle.std.proofs.Common.{◌≡◌, ◌++◌, take}
use Rattle.std.specs.List.{concat}
use Rattle.iol_types.specs.Parts.{parts_of}
use Rattle.iol_record.proofs.encode.push_entries.Given as goal

-- the parts that are written so far
abbrev pub invariant-loop-place : goal.invariant-loop-place
invariant-loop-place l = l.octets.items ≡ l.fn.octets.items ++ concat (take l.place (parts_of l.fn.set.entries))
