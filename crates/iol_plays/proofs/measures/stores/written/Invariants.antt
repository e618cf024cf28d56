use Rattle.std.proofs.Common.{length}
use Rattle.iol_journal.specs.Journals.{calls_left}
use Rattle.iol_plays.proofs.measures.stores.written.Given as goal

-- each step makes one of the disk calls that are left
abbrev pub decreases-loop-next : goal.decreases-loop-next
decreases-loop-next g l = length (calls_left l.writing)
