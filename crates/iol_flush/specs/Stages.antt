-- The stages of a flusher: what it needs next, its disk, and the disk calls that it still makes.
use Rattle.std.specs.Prelude.{◌≡◌, ◌≤◌, ℕ, ◌+◌, ◌*◌, nat_le, not, Bool, true, false, ◌||◌, if◌then◌else◌, List, [], ◌++◌, length}
use Rattle.std.specs.Prelude.{Option, Some, None, is_some}
use Rattle.iol_types.specs.Command.{CommandValue}
use Rattle.iol_types.specs.State.{after}
use Rattle.iol_disk.specs.Calls.{Call}
use Rattle.iol_disk.specs.declared.fault.DiskFault.{DiskFault}
use Rattle.iol_front.specs.Fronts.{Start}
use Rattle.iol_journal.specs.Batches.{batch_calls}
use Rattle.iol_journal.specs.Begin.{fits_no_area, wants_checkpoint, room_in}
use Rattle.iol_journal.specs.BegunViews.{BegunView}
use Rattle.iol_journal.specs.Body.{slots_of, values}
use Rattle.iol_journal.specs.CheckpointViews.{begun_in, stages_left}
use Rattle.iol_journal.specs.Pauses.{calls_of}
use Rattle.iol_journal.specs.Layout.{Layout, is_renewed, renewed, record_sectors}
use Rattle.iol_journal.specs.Meaning.{Standing}
use Rattle.iol_journal.specs.Journals.{JournalView, calls_left}
use Rattle.iol_journal.specs.Limits.{MOST_RECORD_OCTETS}
use Rattle.iol_journal.specs.Sectors.{BODY_SECTORS}
use Rattle.iol_journal.specs.declared.history.History.{History}
use Rattle.iol_flush.specs.declared.need.Need.{Need}
use Rattle.iol_flush.specs.declared.need.Need.TheVariants as need
use Rattle.iol_flush.specs.declared.stage.FlushStage.{FlushStage}
use Rattle.iol_flush.specs.declared.stage.FlushStage.TheVariants.{Resting, Opening, Given, Checkpointing, Writing, Publishing, Failed}

-- a checkpoint is due: one is paused and must continue, or one must begin because the layout is an older one or half of the slots
-- are used (own)
abbrev pub is_due : {D : Type 0} → JournalView D → Bool
is_due journal =
    not (is_renewed journal.standing.layout)
    || (is_some journal.begun || nat_le journal.standing.layout.slots (2 * journal.standing.used))

-- the need while a checkpoint is due: with an older layout it comes before any batch (own)
abbrev pub due_need : Bool → Need
due_need true = need.BatchOrDisk
due_need false = need.Disk

-- the call that a flusher needs next (own)
abbrev pub need_of : {D : Type 0} → FlushStage D → Need
need_of (Resting journal) = if is_due journal then due_need (is_renewed journal.standing.layout) else need.Batch
need_of (Opening checkpoint) = need.Disk
need_of (Given journal batch) = need.Disk
need_of (Checkpointing checkpoint batch) = need.Disk
need_of (Writing writing) = need.Disk
need_of (Publishing journal written) = need.Publish
need_of (Failed disk fault) = need.Stopped

-- a batch is accepted, and a disk call is possible (own)
abbrev pub names_batch : Need → Bool
names_batch need.Batch = true
names_batch need.BatchOrDisk = true
names_batch other = false

abbrev pub names_disk : Need → Bool
names_disk need.Disk = true
names_disk need.BatchOrDisk = true
names_disk other = false

-- the fault of the disk call that failed, if one has (own)
abbrev pub failure_of : {D : Type 0} → FlushStage D → Option DiskFault
failure_of (Failed disk fault) = Some fault
failure_of stage = None

-- the number of record octets that a batch given now may have: the capacity of the free slots of a journal at rest, or of one
-- slot if none is free or at another stage (own)
abbrev pub room_of : {D : Type 0} → FlushStage D → ℕ
room_of (Resting journal) = room_in journal.standing
room_of stage = MOST_RECORD_OCTETS

-- records of at most `room` octets fit an area of a journal at rest, in the newest layout (own)
abbrev pub FitsArea : {D : Type 0} → FlushStage D → ℕ → Type 0
FitsArea (Resting journal) room = (octets : ℕ) → octets ≤ room → slots_of octets ≤ (renewed journal.standing.layout).slots
FitsArea stage room = Unit {0}

-- the disk of a flusher (own)
abbrev pub disk_of : {D : Type 0} → FlushStage D → D
disk_of (Resting journal) = journal.disk
disk_of (Opening checkpoint) = checkpoint.disk
disk_of (Given journal batch) = journal.disk
disk_of (Checkpointing checkpoint batch) = checkpoint.disk
disk_of (Writing writing) = writing.disk
disk_of (Publishing journal written) = journal.disk
disk_of (Failed disk fault) = disk

-- the disk calls of the paused checkpoint, if one is paused (own)
abbrev pub paused_calls : Standing → Option BegunView → List Call
paused_calls standing None = []
paused_calls standing (Some begun) = calls_of standing begun

-- the disk calls that the batch or checkpoint being written still needs (own)
abbrev pub calls_owed : {D : Type 0} → FlushStage D → List Call
calls_owed (Resting journal) = paused_calls journal.standing journal.begun
calls_owed (Opening checkpoint) = stages_left checkpoint
calls_owed (Checkpointing checkpoint batch) = stages_left checkpoint
calls_owed (Writing writing) = calls_left writing
calls_owed stage = []

-- the next disk calls: those of the given batch or, if too few slots are free for it, of a checkpoint; if no batch was given,
-- those of the checkpoint that is due (own)
abbrev pub next_calls : {D : Type 0} → FlushStage D → List Call
next_calls (Resting journal) = if is_due journal then calls_of journal.standing (begun_in journal) else []
next_calls (Given journal batch) =
    if wants_checkpoint journal.standing (values batch.commands.items) then calls_of journal.standing (begun_in journal)
    else batch_calls journal.standing (values batch.commands.items)
next_calls stage = calls_owed stage

-- a journal has written this list since its recovery, from the front's start on (own)
pub record HasHistory (start : Start) (commands : List CommandValue) (history : History) : Type 0 where
  pub first : history.first ≡ start.number
  pub start_is : history.start ≡ start.state
  pub list : history.commands ≡ commands

-- a journal has written this list from the front's start on, and is at the number and state after it (own)
pub record StandsAfter (start : Start) (commands : List CommandValue) (standing : Standing) (history : History) : Type 0 where
  pub history_is : HasHistory start commands history
  pub number : standing.number ≡ start.number + length commands
  pub state : standing.state ≡ after start.state commands

-- the journal's list is the published list, followed by the batch that is durable and not yet published (own)
abbrev pub IsInStep : {D : Type 0} → Start → FlushStage D → List CommandValue → Type 0
IsInStep start (Resting journal) published = StandsAfter start published journal.standing journal.history
IsInStep start (Opening checkpoint) published = StandsAfter start published checkpoint.standing checkpoint.history
IsInStep start (Given journal batch) published = StandsAfter start published journal.standing journal.history
IsInStep start (Checkpointing checkpoint batch) published = StandsAfter start published checkpoint.standing checkpoint.history
IsInStep start (Writing writing) published = StandsAfter start published writing.standing writing.history
IsInStep start (Publishing journal written) published =
    StandsAfter start (published ++ written.commands) journal.standing journal.history
    × (written.first ≡ start.number + length published + 1)
IsInStep start (Failed disk fault) published = Unit {0}

-- the largest number of disk calls of a checkpoint: one for each slot, one for each sector of a port's record, nine more, and 19
-- for each carried slot (own)
abbrev pub most_checkpoint_calls : Layout → ℕ
most_checkpoint_calls layout = 20 * layout.slots + record_sectors layout + 9

-- the largest number of disk calls of a batch: 16 for each command, which takes at most one slot, and three more (own)
abbrev pub most_batch_calls : List CommandValue → ℕ
most_batch_calls commands = BODY_SECTORS * length commands + 3

-- the disk calls still needed are at most those of a batch, of a checkpoint into an area that the waiting batch fits, or of a
-- checkpoint for which no batch waits (own)
abbrev pub HasFewCalls : {D : Type 0} → FlushStage D → Type 0
HasFewCalls (Opening checkpoint) = length (stages_left checkpoint) ≤ most_checkpoint_calls (renewed checkpoint.standing.layout)
HasFewCalls (Checkpointing checkpoint batch) =
    (fits_no_area checkpoint.standing (values batch.commands.items) ≡ false)
    × (length (stages_left checkpoint) ≤ most_checkpoint_calls (renewed checkpoint.standing.layout))
HasFewCalls (Writing writing) = length (calls_left writing) ≤ most_batch_calls writing.commands
HasFewCalls stage = Unit {0}

-- a flusher as contracts see it: its stage, and the published list (own)
pub record FlusherView (D : Type 0) : Type 0 where
  pub stage : FlushStage D
  pub published : List CommandValue
