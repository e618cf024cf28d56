use Rattle.std.proofs.Common.{◌≡◌, length}
use Rattle.iol_disk.specs.Moments.{LeavesOnly}
use Rattle.iol_journal.specs.CheckpointRuns.{IsRunCheckpointing}
use Rattle.iol_journal.specs.CheckpointViews.{begun_in, end_of, stages_left, IsCheckpointUnderway}
use Rattle.iol_journal.specs.Pauses.{calls_of, end_in}
use Rattle.iol_journal.specs.Kept.{KeptMeans}
use Rattle.iol_journal.specs.Runs.{Run}
use Rattle.iol_journal.specs.Running.{IsRunAtRest}
use Rattle.iol_example.specs.Store.{Rests}
use Rattle.iol_example.proofs.CallLaws.{IsAhead}
use Rattle.iol_example.proofs.store.with_free_slot.Given as goal

-- the checkpoint is under way after the same commands, and so far left the number and the state
abbrev pub invariant-loop-next : goal.invariant-loop-next
invariant-loop-next g l =
    let d = g.D.SectorDisk.disk in
    let j = l.fn.journal in
    (l.checkpointing.standing ≡ j.standing)
    × (end_of l.checkpointing ≡ end_in j.standing (begun_in j))
    × (Rests d j → IsCheckpointUnderway d l.checkpointing)
    × (Rests d j → LeavesOnly (d j.disk) (d l.checkpointing.disk) (KeptMeans (d j.disk).sectors j.standing.number j.standing.state))
    × ((r : Run) → IsRunAtRest d r j → IsRunCheckpointing d r l.checkpointing)
    × IsAhead (calls_of j.standing (begun_in j)) (stages_left l.checkpointing) (d j.disk) (d l.checkpointing.disk)

-- each step makes one of the disk calls that are left
abbrev pub decreases-loop-next : goal.decreases-loop-next
decreases-loop-next g l = length (stages_left l.checkpointing)
