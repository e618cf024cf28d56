use Rattle.std.proofs.Common.{◌≡◌, length}
use Rattle.std.specs.Map.{keys_of}
use Rattle.iol_script.specs.Parameters.{are_distinct, entries_of}
use Rattle.iol_script.proofs.parameters.are_distinct.Given as goal

-- the result depends only on the remaining parameters
abbrev pub invariant-loop-first : goal.invariant-loop-first
invariant-loop-first l = are_distinct (keys_of (entries_of l.left)) ≡ are_distinct (keys_of (entries_of l.parameters))

abbrev pub decreases-loop-first : goal.decreases-loop-first
decreases-loop-first l = length l.left
