use Rattle.std.proofs.Common.{◌≡◌, ◌≤◌, length}
use Rattle.iol_wire.specs.Words.{words}
use Rattle.iol_wire.proofs.words.without_blanks.Given as goal

abbrev pub invariant-loop-first : goal.invariant-loop-first
invariant-loop-first l = (words l.rest ≡ words l.octets) × (length l.rest ≤ length l.octets)

abbrev pub decreases-loop-first : goal.decreases-loop-first
decreases-loop-first l = length l.rest
