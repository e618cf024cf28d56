-- A begun checkpoint: the calls that it still makes, and what holds of the disk while it is paused.
use Rattle.std.specs.Prelude.{IsTrue, List, Option, IfSome}
use Rattle.iol_disk.specs.Calls.{Call}
use Rattle.iol_disk.specs.Disk.{Disk}
use Rattle.iol_journal.specs.BegunViews.{BegunView}
use Rattle.iol_journal.specs.Checkpoints.{target, with_batches, stage_calls}
use Rattle.iol_journal.specs.Drafts.{AreaHolds, StageHolds}
use Rattle.iol_layout.specs.Meaning.{Standing}

-- the standing of a journal once its checkpoint is done: in the other area, with the carried and the owed batches (own)
abbrev pub end_in : Standing → BegunView → Standing
end_in s b = with_batches (target s b.log) b.owed

-- the disk calls that a checkpoint still makes (own)
abbrev pub calls_of : Standing → BegunView → List Call
calls_of s b = stage_calls (target s b.log) b.owed b.stage

-- if the disk is honest, what the stage of a checkpoint says holds of it (own)
abbrev pub IsDrawnUp : Disk → Standing → BegunView → Type 0
IsDrawnUp d s b = IsTrue d.honest → StageHolds d.sectors s (target s b.log) b.owed b.stage d.content

-- if a checkpoint is paused while the journal is at rest, what its stage says holds (own)
abbrev pub IsPaused : Disk → Standing → Option BegunView → Type 0
IsPaused d s begun = IfSome begun (IsDrawnUp d s)

-- if a checkpoint is paused while a batch is being written, an honest disk reads as its stage says in the area that it writes
-- (own)
abbrev pub IsBeside : Disk → Standing → Option BegunView → Type 0
IsBeside d s begun =
    IfSome begun (λ b. IsTrue d.honest → AreaHolds d.sectors (target s b.log) b.owed b.stage d.content)
