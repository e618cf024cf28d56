use Rattle.std.proofs.Common.{◌≡◌, length}
use Rattle.iol_disk.specs.Moments.{LeavesOnly}
use Rattle.iol_journal.specs.Pauses.{IsBeside}
use Rattle.iol_journal.specs.Journals.{calls_left}
use Rattle.iol_journal.specs.Kept.{KeptEither}
use Rattle.iol_journal.specs.Runs.{Run}
use Rattle.iol_journal.specs.Running.{IsRunWriting}
use Rattle.iol_journal.specs.Underway.{IsUnderway}
use Rattle.iol_example.proofs.CallLaws.{IsAhead}
use Rattle.iol_example.proofs.store.finish.Given as goal

-- the batch is under way after the same commands, and so far left the state before it or after it
abbrev pub invariant-loop-next : goal.invariant-loop-next
invariant-loop-next g l =
    let d = g.D.SectorDisk.disk in
    let w = l.fn.writing in
    (l.writing.standing ≡ w.standing) × (l.writing.commands ≡ w.commands)
    × (IsUnderway d w → IsUnderway d l.writing)
    × (IsUnderway d w → LeavesOnly (d w.disk) (d l.writing.disk)
    (KeptEither (d w.disk).sectors w.standing.number w.standing.state w.commands))
    × ((r : Run) → IsRunWriting d r w → IsRunWriting d r l.writing)
    × (IsBeside (d w.disk) w.standing w.begun → IsBeside (d l.writing.disk) l.writing.standing l.writing.begun)
    × IsAhead (calls_left w) (calls_left l.writing) (d w.disk) (d l.writing.disk)

-- each step makes one of the disk calls that are left
abbrev pub decreases-loop-next : goal.decreases-loop-next
decreases-loop-next g l = length (calls_left l.writing)
