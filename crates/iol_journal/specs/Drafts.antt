-- What holds of the area that a checkpoint writes, and of an honest disk, before each disk call.
use Rattle.std.specs.Prelude.{◌≡◌, ◌≢◌, ◌≤◌, ◌<◌, ℕ, Bool, true, false, ◌&&◌, List, [], ◌∷◌, ◌++◌, length, take, Option}
use Rattle.std.specs.Option.{option_map}
use Rattle.iol_types.specs.Command.{CommandValue}
use Rattle.iol_disk.specs.Content.{Image, Content, EachImage, IsSettled, reads}
use Rattle.iol_disk.specs.Disk.{Disk}
use Rattle.iol_disk.specs.Gate.{is_open}
use Rattle.iol_layout.specs.AreaPlans.{AreRecords}
use Rattle.iol_layout.specs.AreaWrites.{HasWrites}
use Rattle.iol_journal.specs.Batches.{body_for, sectors_for}
use Rattle.iol_journal.specs.BegunViews.{BegunView}
use Rattle.iol_journal.specs.Checkpoints.{target, first_of, with_batches, header_of_target, snapshot_writes, next_stage, IsStage}
use Rattle.iol_journal.specs.Checkpoints.{log_after, owed_after}
use Rattle.iol_layout.specs.Header.{header_of}
use Rattle.iol_layout.specs.Standings.{with_batch, IsResting}
use Rattle.iol_journal.specs.Planned.{CanFollow}
use Rattle.iol_layout.specs.Kept.{IsKeptAs}
use Rattle.iol_layout.specs.Layout.{IsLayout, is_renewed, gate_at, header_at, slot_at}
use Rattle.iol_layout.specs.Meaning.{Standing}
use Rattle.iol_journal.specs.Phases.{HasWritten}
use Rattle.iol_journal.specs.declared.phase.Phase.{Phase}
use Rattle.iol_journal.specs.declared.phase.Phase.TheVariants.{Body, SyncBody, Gate, SyncGate}
use Rattle.iol_layout.specs.declared.idle.Idle.{Idle}
use Rattle.iol_layout.specs.declared.idle.Idle.TheVariants.{Older, Closed}
use Rattle.iol_journal.specs.declared.stage.CheckpointStage.{CheckpointStage}
use Rattle.iol_journal.specs.declared.stage.CheckpointStage.TheVariants.{ClearHeader, SyncHeader, CloseGate, SyncClosed}
use Rattle.iol_journal.specs.declared.stage.CheckpointStage.TheVariants.{CloseSlot, SyncSlots}
use Rattle.iol_journal.specs.declared.stage.CheckpointStage.TheVariants.{WriteHeader, WriteRecord, SyncRecords, Carry, OpenGate, SyncOpen}

-- the first `k` slots of the area are closed (own)
abbrev pub AreShut : Standing → ℕ → Image → Type 0
AreShut t k image = (j : ℕ) → j < k → is_open (image (slot_at t.layout t.area j)) ≡ false

-- all slots of the area are closed, and its header and `records` sectors of records are written (own)
pub record IsPrepared (t : Standing) (records : ℕ) (image : Image) : Type 0 where
  pub shut : AreShut t t.layout.slots image
  pub head : header_of (image (header_at t.layout t.area)) ≡ header_of_target t
  pub written : HasWrites (take records (snapshot_writes t)) image

-- an image that has the area's gate open, and is otherwise what is read, is kept with this standing (own)
abbrev pub OpensTo : ℕ → Standing → Content → Type 0
OpensTo size t c =
    (image : Image) → ((i : ℕ) → i ≢ gate_at t.layout t.area → image i ≡ reads c i) → is_open (image (gate_at t.layout t.area)) ≡ true
    → IsKeptAs size t Older image

-- an image while the gate of the area is being written: with the gate closed it has the standing before the checkpoint, with
-- the gate open the one after it (own)
abbrev pub IsTurning : ℕ → Standing → Standing → Image → Type 0
IsTurning size s t image =
    (is_open (image (gate_at t.layout t.area)) ≡ false → IsKeptAs size s Closed image)
    × (is_open (image (gate_at t.layout t.area)) ≡ true → IsKeptAs size t Older image)

-- what makes the area harmless before the disk call of each stage (own)
abbrev pub idle_at : CheckpointStage → Idle
idle_at CloseGate = Older
idle_at SyncClosed = Older
idle_at stage = Closed

-- what is read of the first free slots while a batch is carried into them and the gate of the area is closed (own)
abbrev pub CarryHolds : ℕ → Standing → List CommandValue → Phase → Content → Type 0
CarryHolds size t batch (Body j) c = OpensTo size t c × HasWritten t (body_for t batch) j c
CarryHolds size t batch SyncBody c = OpensTo size t c × HasWritten t (body_for t batch) (sectors_for t batch) c
CarryHolds size t batch Gate c = OpensTo size t c × HasWritten t (body_for t batch) (sectors_for t batch) c
CarryHolds size t batch SyncGate c = OpensTo size (with_batch t batch) c

-- what is read of the area before the disk call of each stage; batches written to the area in use do not change it (own)
abbrev pub AreaHolds : ℕ → Standing → List (List CommandValue) → CheckpointStage → Content → Type 0
AreaHolds size t owed ClearHeader c = Unit {0}
AreaHolds size t owed SyncHeader c = (header_of (reads c (header_at t.layout t.area))).epoch ≡ 0
AreaHolds size t owed CloseGate c = Unit {0}
AreaHolds size t owed SyncClosed c = is_open (reads c (gate_at t.layout t.area)) ≡ false
AreaHolds size t owed (CloseSlot k) c = AreShut t k (reads c)
AreaHolds size t owed SyncSlots c = AreShut t t.layout.slots (reads c)
AreaHolds size t owed WriteHeader c = AreShut t t.layout.slots (reads c)
AreaHolds size t owed (WriteRecord i) c = IsPrepared t i (reads c)
AreaHolds size t owed SyncRecords c = IsPrepared t (length (snapshot_writes t)) (reads c)
AreaHolds size t owed (Carry p) c = CarryHolds size t (first_of owed) p c
AreaHolds size t owed OpenGate c = OpensTo size t c
AreaHolds size t owed SyncOpen c = Unit {0}

-- two standings are at the same number and state (own)
abbrev pub MeansSame : Standing → Standing → Type 0
MeansSame t s = (t.number ≡ s.number) × (t.state ≡ s.state)

-- what holds of the content before the disk call of each stage of a checkpoint from the first standing to the second (own)
abbrev pub StageHolds : ℕ → Standing → Standing → List (List CommandValue) → CheckpointStage → Content → Type 0
StageHolds size s t owed OpenGate c = EachImage c (IsKeptAs size s Closed) × OpensTo size t c × IsSettled c
StageHolds size s t owed SyncOpen c =
    EachImage c (IsTurning size s t) × IsKeptAs size t Older (reads c) × MeansSame t s
StageHolds size s t owed stage c = EachImage c (IsKeptAs size s (idle_at stage)) × AreaHolds size t owed stage c

-- the next stage of a checkpoint that writes this area, with these batches owed (own)
abbrev pub stage_after : Standing → List (List CommandValue) → CheckpointStage → Option CheckpointStage
stage_after t owed stage =
    next_stage t.layout.slots (length (snapshot_writes t)) (sectors_for t (first_of owed)) (length owed) stage

-- a checkpoint after its next disk call; `None` if that is its last one (own)
abbrev pub begun_after : Standing → BegunView → Option BegunView
begun_after s b =
    option_map (λ stage. record { log = log_after b.log b.owed b.stage; owed = owed_after b.owed b.stage; stage = stage })
    (stage_after (target s b.log) b.owed b.stage)

-- the gate of the area is not yet written (own)
abbrev pub can_pause : CheckpointStage → Bool
can_pause SyncOpen = false
can_pause stage = true

-- a checkpoint may be paused: the journal has the newest layout, and the gate of the other area is not yet written (own)
abbrev pub may_pause : Standing → CheckpointStage → Bool
may_pause s stage = is_renewed s.layout && can_pause stage

-- the stage once one more batch is owed (own)
abbrev pub owing : CheckpointStage → CheckpointStage
owing OpenGate = Carry (Body 0)
owing stage = stage

-- a checkpoint with one more owed batch (own)
abbrev pub with_owed : List CommandValue → BegunView → BegunView
with_owed batch b = record { log = b.log; owed = b.owed ++ batch ∷ []; stage = owing b.stage }

-- the records of the area are not yet durable (own)
abbrev pub IsSnapshot : CheckpointStage → Type 0
IsSnapshot (Carry p) = ⊥
IsSnapshot OpenGate = ⊥
IsSnapshot SyncOpen = ⊥
IsSnapshot stage = Unit {0}

-- an area whose records are still to be written: no batch is in it (own)
pub record IsFresh (t : Standing) : Type 0 where
  pub none : t.used ≡ 0
  pub records : AreRecords t.layout t.area t.state

-- each batch can be written after those before it (own)
abbrev pub AreOwed : Standing → List (List CommandValue) → Type 0
AreOwed t [] = Unit {0}
AreOwed t (batch ∷ batches) = CanFollow t batch × AreOwed (with_batch t batch) batches

-- what holds of a checkpoint from the first standing to the second, on any disk (own)
pub record IsDrafted (d : Disk) (s t : Standing) (owed : List (List CommandValue)) (stage : CheckpointStage) : Type 0 where
  pub laid_out : IsLayout s.layout
  pub some : 1 ≤ t.layout.slots
  pub resting : IsResting d t
  pub fresh : IsSnapshot stage → IsFresh t
  pub in_stage : IsStage t.layout.slots (length (snapshot_writes t)) (sectors_for t (first_of owed)) (length owed) stage
  pub owed_are : AreOwed t owed
  -- after the owed batches the area is at the journal's number and state, and uses no more slots
  pub same : MeansSame (with_batches t owed) s
  pub slots : (with_batches t owed).used ≤ s.used
