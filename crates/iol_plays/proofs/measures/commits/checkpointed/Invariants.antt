use Rattle.std.proofs.Common.{length}
use Rattle.iol_journal.specs.CheckpointViews.{stages_left}
use Rattle.iol_plays.proofs.measures.commits.checkpointed.Given as goal

-- each step makes one of the disk calls that are left
abbrev pub decreases-loop-next : goal.decreases-loop-next
decreases-loop-next g l = length (stages_left l.checkpointing)
