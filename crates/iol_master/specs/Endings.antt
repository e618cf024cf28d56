-- The ends of a flusher's run, and of a master.
use Rattle.std.specs.Prelude.{◌≡◌, ◌≢◌, ◌⊎◌, ◌+◌, ℕ, true, false, List, length}
use Rattle.iol_types.specs.Command.{CommandValue}
use Rattle.iol_disk.specs.Disk.{Disk, HasFailed}
use Rattle.iol_front.specs.Fronts.{Start}
use Rattle.iol_journal.specs.Journals.{JournalView}
use Rattle.iol_journal.specs.Kept.{EachMeans}
use Rattle.iol_journal.specs.Layout.{is_renewed}
use Rattle.iol_flush.specs.Flushing.{Rests}
use Rattle.iol_flush.specs.Stages.{StandsAfter, names_batch, need_of}
use Rattle.iol_flush.specs.declared.flusher.FlushEnd.{FlushEnd}
use Rattle.iol_flush.specs.declared.flusher.FlushEnd.TheVariants as flush
use Rattle.iol_flush.specs.declared.need.Need.TheVariants as need
use Rattle.iol_flush.specs.declared.stage.FlushStage.{FlushStage}
use Rattle.iol_flush.specs.declared.stage.FlushStage.TheVariants.{Resting, Given}
use Rattle.iol_master.specs.declared.flushing.Leaves.{Leaves}
use Rattle.iol_master.specs.declared.flushing.Leaves.TheVariants.{Nothing, Unwritten}
use Rattle.iol_master.specs.declared.flushing.Turned.{Turned}
use Rattle.iol_master.specs.declared.flushing.Turned.TheVariants.{Made, Waited, Ended}
use Rattle.iol_master.specs.declared.ending.Ending.{Ending}
use Rattle.iol_master.specs.declared.ending.Ending.TheVariants as ending
use Rattle.iol_master.specs.declared.ending.StartFault.{StartFault}
use Rattle.iol_master.specs.declared.ending.StartFault.TheVariants as start_fault

-- a journal is at rest in an older layout: a checkpoint comes before the next batch (own)
abbrev pub RestsOlder : {D : Type 0} → FlushStage D → Type 0
RestsOlder (Resting journal) = is_renewed journal.standing.layout ≡ false
RestsOlder stage = ⊥

-- a flusher may end: it may be given a batch, its journal is at rest in an older layout, or a disk call has failed (own)
abbrev pub IsOver : {D : Type 0} → FlushStage D → Type 0
IsOver stage = (names_batch (need_of stage) ≡ true) ⊎ (need_of stage ≡ need.Stopped) ⊎ RestsOlder stage

-- if a turn ends the flusher, the flusher may end (own)
abbrev pub MayEnd : {D : Type 0} → FlushStage D → Turned → Type 0
MayEnd stage Made = Unit {0}
MayEnd stage Waited = Unit {0}
MayEnd stage (Ended leaves) = IsOver stage

-- a flusher may wait for memory only if its journal is at rest, so that no batch has a disk call underway (own)
abbrev pub MayWait : {D : Type 0} → FlushStage D → Type 0
MayWait (Resting journal) = Unit {0}
MayWait (Given journal batch) = Unit {0}
MayWait stage = ⊥

-- after a turn, a flusher that waits may wait, and one that ends may end and leaves nothing unwritten (own)
abbrev pub MayTurn : {D : Type 0} → FlushStage D → Turned → Type 0
MayTurn stage Made = Unit {0}
MayTurn stage Waited = MayWait stage
MayTurn stage (Ended leaves) = IsOver stage × (leaves ≡ Nothing)

-- a flusher that ends because memory ran out leaves the waiting commands (own)
abbrev pub LeavesWaiting : Turned → Type 0
LeavesWaiting (Ended leaves) = leaves ≡ Unwritten
LeavesWaiting turned = Unit {0}

-- the count of waits for memory in a row: a turn that was made sets it to 0, and one that waited sets it to 0 or adds one (own)
abbrev pub HasWaited : Turned → ℕ → ℕ → Type 0
HasWaited Made before after = after ≡ 0
HasWaited Waited before after = (after ≡ 0) ⊎ (after ≡ before + 1)
HasWaited (Ended leaves) before after = Unit {0}

-- all that a journal has written in this run is published; if each image was kept at the start, each is, and means the state after the
-- published commands (own)
pub record IsWhole {D : Type 0} (disk : D → Disk) (start : Start) (first last : JournalView D) (published : List CommandValue) : Type 0
  where
    pub behind : StandsAfter start published last.standing last.history
    pub images : Rests disk first → EachMeans (disk last.disk) last.standing.number last.standing.state

-- a flusher that was given a journal has ended: all that it wrote is published, or a disk call has failed (own)
abbrev pub EndsFrom : {D F : Type 0} → (D → Disk) → Start → JournalView D → FlushEnd D F → Type 0
EndsFrom disk start first (flush.Closed journal published) = IsWhole disk start first journal published
EndsFrom disk start first (flush.Midway left) = ⊥
EndsFrom disk start first (flush.Faulted left fault) = HasFailed (disk first.disk) (disk left)

-- a flusher did not end between two disk calls of a batch (own)
abbrev pub NeverMidway : {D F : Type 0} → FlushEnd D F → Type 0
NeverMidway (flush.Midway left) = ⊥
NeverMidway end = Unit {0}

-- a master reports that all is written only if its flusher leaves nothing, and that something is not only if it leaves something (own)
abbrev pub LeavesAs : {D F : Type 0} → Leaves → Ending D F → Type 0
LeavesAs leaves (ending.Closed journal published) = leaves ≡ Nothing
LeavesAs leaves (ending.Unwritten journal published) = leaves ≡ Unwritten
LeavesAs leaves (ending.Faulted left fault) = Unit {0}

-- a master that was started with a journal has ended: all that it wrote is published, or a disk call has failed (own)
abbrev pub IsEnding : {D F : Type 0} → (D → Disk) → Start → JournalView D → Ending D F → Type 0
IsEnding disk start first (ending.Closed journal published) = IsWhole disk start first journal published
IsEnding disk start first (ending.Unwritten journal published) = IsWhole disk start first journal published
IsEnding disk start first (ending.Faulted left fault) = HasFailed (disk first.disk) (disk left)

-- a run over a journal has ended and leaves this disk: a disk call has failed, or the disk is that of a whole journal (own)
abbrev pub IsLeft : {D : Type 0} → (D → Disk) → Start → JournalView D → D → Type 0
IsLeft {D} disk start first left =
    HasFailed (disk first.disk) (disk left)
    ⊎ ((last : JournalView D) × (published : List CommandValue) × IsWhole disk start first last published × (left ≡ last.disk))

-- a master does not start, and returns a disk. If there is not one link for each port, or memory ran out, it is that of the journal; if a
-- thread could not be made, an ended run over the journal left it. The last two come only with one link for each port (own)
abbrev pub IsStartFault : {D : Type 0} → (D → Disk) → Start → JournalView D → ℕ → StartFault D → Type 0
IsStartFault disk start first links (start_fault.Ports left) = (left ≡ first.disk) × (links ≢ length start.state)
IsStartFault disk start first links (start_fault.Memory left) = (left ≡ first.disk) × (links ≡ length start.state)
IsStartFault disk start first links (start_fault.Thread left) = IsLeft disk start first left × (links ≡ length start.state)
