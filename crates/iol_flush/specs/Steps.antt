-- What each call of the flusher does.
use Rattle.std.specs.Prelude.{◌≡◌, ◌⊎◌, Bool, true, false, List, ◌++◌, Option, Some, None, Result, Ok, Err}
use Rattle.iol_types.specs.Command.{CommandValue}
use Rattle.iol_disk.specs.Disk.{Disk}
use Rattle.iol_front.specs.Fronts.{CommittedView}
use Rattle.iol_journal.specs.Begin.{batch_refusal, fits_no_area, wants_checkpoint}
use Rattle.iol_journal.specs.Drafts.{may_pause}
use Rattle.iol_journal.specs.Layout.{is_renewed}
use Rattle.iol_journal.specs.CheckpointViews.{CheckpointingView, checkpoint_of, paused_in}
use Rattle.iol_journal.specs.Checkpointing.{IsCheckpointMoved, IsCheckpointDone}
use Rattle.iol_journal.specs.Journals.{JournalView, WritingView, writing_of}
use Rattle.iol_journal.specs.Progress.{IsBatchMoved, IsBatchDone}
use Rattle.iol_journal.specs.Body.{values}
use Rattle.iol_disk.specs.Calls.{Call, MakesFirst}
use Rattle.iol_journal.specs.declared.batch.Batch.{Batch}
use Rattle.iol_journal.specs.declared.refusal.BeginCause.TheVariants.{TooLarge, Misfit}
use Rattle.iol_journal.specs.Written.{WrittenView}
use Rattle.iol_flush.specs.Stages.{FlusherView, disk_of, next_calls, calls_owed, is_due, names_batch, need_of, failure_of}
use Rattle.iol_flush.specs.declared.need.Need.TheVariants as need
use Rattle.iol_flush.specs.declared.fault.FlushFault.{FlushFault}
use Rattle.iol_flush.specs.declared.fault.FlushFault.TheVariants as fault
use Rattle.iol_flush.specs.declared.fault.GiveFault.{GiveFault}
use Rattle.iol_flush.specs.declared.fault.GiveFault.TheVariants as give
use Rattle.iol_flush.specs.declared.flusher.FlushEnd.{FlushEnd}
use Rattle.iol_flush.specs.declared.flusher.FlushEnd.TheVariants as end
use Rattle.iol_flush.specs.declared.stage.FlushStage.{FlushStage}
use Rattle.iol_flush.specs.declared.stage.FlushStage.TheVariants.{Resting, Opening, Given, Checkpointing, Writing, Publishing, Failed}

-- a disk call of a batch was made: the batch is still being written, or is durable (own)
abbrev pub HasMadeOfBatch : {D : Type 0} → WritingView D → FlushStage D → Type 0
HasMadeOfBatch w (Writing v) = IsBatchMoved w v
HasMadeOfBatch w (Publishing j written) = IsBatchDone w j written
HasMadeOfBatch w stage = ⊥

-- a disk call of a checkpoint was made: the checkpoint is still being written, or is done; the batch waits meanwhile (own)
abbrev pub HasMadeOfCheckpoint : {D : Type 0} → CheckpointingView D → Batch → FlushStage D → Type 0
HasMadeOfCheckpoint c batch (Checkpointing d kept) = IsCheckpointMoved c d × (kept ≡ batch)
HasMadeOfCheckpoint c batch (Given j kept) = IsCheckpointDone c j × (kept ≡ batch)
HasMadeOfCheckpoint c batch stage = ⊥

-- a checkpoint is paused after a disk call, and the journal is at rest meanwhile (own)
abbrev pub HasPaused : {D : Type 0} → CheckpointingView D → JournalView D → Type 0
HasPaused {D} c j =
    (more : CheckpointingView D) × IsCheckpointMoved c more × (may_pause more.standing more.begun.stage ≡ true) × (j ≡ paused_in more)

-- a disk call of a checkpoint for which no batch waits was made: the checkpoint is done, or paused, or cannot be paused (own)
abbrev pub HasAdvanced : {D : Type 0} → CheckpointingView D → FlushStage D → Type 0
HasAdvanced c (Resting j) = IsCheckpointDone c j ⊎ HasPaused c j
HasAdvanced c (Opening d) = IsCheckpointMoved c d
HasAdvanced c stage = ⊥

-- a checkpoint is paused if it can be, or continues unchanged (own)
abbrev pub IsLeftPaused : {D : Type 0} → CheckpointingView D → FlushStage D → Type 0
IsLeftPaused c (Resting j) = (may_pause c.standing c.begun.stage ≡ true) × (j ≡ paused_in c)
IsLeftPaused c (Opening d) = d ≡ c
IsLeftPaused c stage = ⊥

-- the first disk call after a batch was given: the batch's own or, if too few slots are free for it, a checkpoint's (own)
abbrev pub HasBegun : {D : Type 0} → Bool → JournalView D → Batch → FlushStage D → Type 0
HasBegun true journal batch new =
    (fits_no_area journal.standing (values batch.commands.items) ≡ false)
    × HasMadeOfCheckpoint (checkpoint_of journal) batch new
HasBegun false journal batch new =
    (batch_refusal journal.standing batch.first (values batch.commands.items) ≡ None)
    × HasMadeOfBatch (writing_of journal (values batch.commands.items)) new

-- the stages of a flusher before and after a disk call (own)
abbrev pub HasMade : {D : Type 0} → FlushStage D → FlushStage D → Type 0
HasMade (Given journal batch) new = HasBegun (wants_checkpoint journal.standing (values batch.commands.items)) journal batch new
HasMade (Resting journal) new = (is_due journal ≡ true) × HasAdvanced (checkpoint_of journal) new
HasMade (Opening checkpoint) new = HasAdvanced checkpoint new
HasMade (Checkpointing checkpoint batch) new = HasMadeOfCheckpoint checkpoint batch new
HasMade (Writing writing) new = HasMadeOfBatch writing new
HasMade stage new = ⊥

-- the given batch can never be written: it is too large or does not follow the journal (own)
abbrev pub IsUnfit : {D : Type 0} → FlushStage D → Type 0
IsUnfit (Given journal batch) =
    (batch_refusal journal.standing batch.first (values batch.commands.items) ≡ Some TooLarge)
    ⊎ (batch_refusal journal.standing batch.first (values batch.commands.items) ≡ Some Misfit)
IsUnfit stage = ⊥

-- the next disk call may need memory: it begins the given batch, or begins a checkpoint; continuing a paused checkpoint needs none
-- (own)
abbrev pub MayWant : {D : Type 0} → FlushStage D → Type 0
MayWant (Given journal batch) =
    (fits_no_area journal.standing (values batch.commands.items) ≡ false)
    × (wants_checkpoint journal.standing (values batch.commands.items) ≡ true → journal.begun ≡ None)
MayWant (Resting journal) = (is_due journal ≡ true) × (journal.begun ≡ None)
MayWant stage = ⊥

-- the first of the next disk calls is made, or fails; or none is made and nothing changes: an earlier call failed, memory runs out
-- when a batch or a checkpoint is begun, or the batch does not fit (own)
abbrev pub IsDiskStep : {D : Type 0} → (D → Disk) → FlushStage D → FlushStage D → Result Unit FlushFault → Type 0
IsDiskStep disk old new (Ok done) =
    HasMade old new × MakesFirst (next_calls old) (calls_owed new) (disk (disk_of old)) (disk (disk_of new)) (Ok done)
IsDiskStep disk old new (Err (fault.Disk cause)) =
    (failure_of new ≡ Some cause)
    × (others : List Call) × MakesFirst (next_calls old) others (disk (disk_of old)) (disk (disk_of new)) (Err cause)
IsDiskStep disk old new (Err fault.Stopped) = (need_of old ≡ need.Stopped) × (new ≡ old)
IsDiskStep disk old new (Err fault.Memory) = MayWant old × (new ≡ old)
IsDiskStep disk old new (Err fault.Misfit) = IsUnfit old × (new ≡ old)

-- a batch is accepted; or it is returned because a disk call has failed, and nothing changes (own)
abbrev pub HasTaken : {D : Type 0} → FlushStage D → Batch → FlushStage D → Type 0
HasTaken (Resting journal) batch new = new ≡ Given journal batch
HasTaken stage batch new = ⊥

abbrev pub IsGift : {D : Type 0} → FlushStage D → Batch → FlushStage D → Result Unit GiveFault → Type 0
IsGift old batch new (Ok done) = HasTaken old batch new
IsGift old batch new (Err (give.Stopped back)) = (need_of old ≡ need.Stopped) × (new ≡ old) × (back ≡ batch)

-- the batch for which no disk call was made is taken back, and the journal is at rest; without such a batch nothing changes (own)
abbrev pub IsWithdrawn : {D : Type 0} → FlushStage D → FlushStage D → Option Batch → Type 0
IsWithdrawn (Given journal batch) new (Some back) = (new ≡ Resting journal) × (back ≡ batch)
IsWithdrawn (Given journal batch) new None = ⊥
IsWithdrawn old new (Some back) = ⊥
IsWithdrawn old new None = new ≡ old

-- the durable batch is taken out of the stage; or there is none, because a disk call has failed (own)
abbrev pub HasGivenUp : {D : Type 0} → FlushStage D → FlushStage D → Option WrittenView → Type 0
HasGivenUp (Publishing journal written) new (Some out) = (new ≡ Resting journal) × (out ≡ written)
HasGivenUp (Failed disk fault) new None = new ≡ Failed disk fault
HasGivenUp stage new out = ⊥

-- the durable batch is appended to the published list, and the journal is at rest (own)
abbrev pub HasPublished : {D : Type 0} → FlushStage D → List CommandValue → FlusherView D → CommittedView → Type 0
HasPublished (Publishing journal written) published new committed =
    (new ≡ record { stage = Resting journal; published = published ++ written.commands })
    × (committed.before ≡ published) × (committed.commands ≡ written.commands)
HasPublished stage published new committed = ⊥

-- the batch is published; or nothing changes, because a disk call has failed (own)
abbrev pub IsPublished : {D : Type 0} → FlusherView D → FlusherView D → Result CommittedView FlushFault → Type 0
IsPublished old new (Ok committed) = HasPublished old.stage old.published new committed
IsPublished old new (Err why) = (why ≡ fault.Stopped) × (need_of old.stage ≡ need.Stopped) × (new ≡ old)

-- the journal is at rest: all given batches are published, or the last is durable and still to be published (own)
abbrev pub HasJournal : {D : Type 0} → FlushStage D → JournalView D → Type 0
HasJournal (Resting journal) back = back ≡ journal
HasJournal (Publishing journal written) back = back ≡ journal
HasJournal stage back = ⊥

-- a given batch is not yet durable, or a checkpoint that cannot be paused is being written (own)
abbrev pub IsMidway : {D : Type 0} → FlushStage D → Type 0
IsMidway (Opening checkpoint) = Unit {0}
IsMidway (Given journal batch) = Unit {0}
IsMidway (Checkpointing checkpoint batch) = Unit {0}
IsMidway (Writing writing) = Unit {0}
IsMidway stage = ⊥

-- what a flusher returns at its end: the journal and the publisher if the journal is at rest, whatever its layout, and otherwise
-- the disk (own)
abbrev pub IsEnd : {D F : Type 0} → FlusherView D → FlushEnd D F → Type 0
IsEnd flusher (end.Closed journal publisher) =
    HasJournal flusher.stage journal × (publisher ≡ flusher.published)
    × ((names_batch (need_of flusher.stage) ≡ true) ⊎ (need_of flusher.stage ≡ need.Publish)
    ⊎ (is_renewed journal.standing.layout ≡ false))
IsEnd flusher (end.Midway disk) = IsMidway flusher.stage × (disk ≡ disk_of flusher.stage)
IsEnd flusher (end.Faulted disk cause) = (failure_of flusher.stage ≡ Some cause) × (disk ≡ disk_of flusher.stage)
