use Rattle.std.proofs.Common.{◌≡◌, take}
use Rattle.iol_types.proofs.data_set.has_entries_of.Given as goal

-- the entries before the place are equal
abbrev pub invariant-loop-place : goal.invariant-loop-place
invariant-loop-place l = take l.place l.set.entries ≡ take l.place l.other.entries
