use Rattle.std.proofs.Common.{◌≡◌, length}
use Rattle.iol_journal.specs.Journals.{calls_left}
use Rattle.iol_tests.proofs.scene.finish.Given as goal

-- the batch stays behind the same commands
abbrev pub invariant-loop-next : goal.invariant-loop-next
invariant-loop-next g l = (l.writing.standing ≡ l.fn.writing.standing) × (l.writing.commands ≡ l.fn.writing.commands)

-- each step makes one of the disk calls that are left
abbrev pub decreases-loop-next : goal.decreases-loop-next
decreases-loop-next g l = length (calls_left l.writing)
