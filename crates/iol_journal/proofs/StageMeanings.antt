-- What an image means at any moment of a checkpoint.
use Rattle.std.proofs.Common.{ℕ, zero, suc, List, [], ◌∷◌, Option, Some, None}
use Rattle.iol_types.specs.Command.{CommandValue}
use Rattle.iol_disk.specs.Calls.{content_after}
use Rattle.iol_disk.specs.Content.{Image, Content, IsImage}
use Rattle.iol_disk.proofs.DiskLaws.{HasOnTheWay}
use Rattle.iol_disk.specs.Gate.{is_open}
use Rattle.iol_journal.specs.Checkpoints.{call_at}
use Rattle.iol_journal.specs.Drafts.{IsTurning, MeansSame, StageHolds}
use Rattle.iol_layout.specs.Kept.{KeptMeans}
use Rattle.iol_layout.specs.Layout.{gate_at}
use Rattle.iol_layout.specs.Meaning.{Standing}
use Rattle.iol_layout.specs.declared.idle.Idle.TheVariants.{Older, Closed}
use Rattle.iol_journal.specs.declared.stage.CheckpointStage.{CheckpointStage}
use Rattle.iol_journal.specs.declared.stage.CheckpointStage.TheVariants.{ClearHeader, SyncHeader, CloseGate, SyncClosed}
use Rattle.iol_journal.specs.declared.stage.CheckpointStage.TheVariants.{CloseSlot, SyncSlots}
use Rattle.iol_journal.specs.declared.stage.CheckpointStage.TheVariants.{WriteHeader, WriteRecord, SyncRecords, Carry, OpenGate, SyncOpen}
use Rattle.iol_layout.proofs.Chains.{by_test}
use Rattle.iol_layout.proofs.Frames.{kept_means}
use Rattle.iol_disk.proofs.Synced.{left_behind}
use Rattle.iol_journal.proofs.Stages.{HoldsAfter}

module _ (size : ℕ) (s : Standing) where
  -- while the gate is being written, if both areas mean the same
  turning_means : (t : Standing) (image : Image) → MeansSame t s → IsTurning size s t image → KeptMeans size s.number s.state image
  turning_means t image (number, state) is = by_test (is_open (image (gate_at t.layout t.area))) _
      (λ opened. rw (← number, ← state) (kept_means size t Older image (is.1 opened)))
      (λ closed. kept_means size s Closed image (is.0 closed))

  -- before the call of each stage each image means the number and the state
  pub stage_means : (t : Standing) (owed : List (List CommandValue)) (stage : CheckpointStage) (c : Content)
      → StageHolds size s t owed stage c
      → (image : Image) → IsImage c image → KeptMeans size s.number s.state image
  stage_means t owed ClearHeader c holds image is = kept_means size s Closed image (holds.0 image is)
  stage_means t owed SyncHeader c holds image is = kept_means size s Closed image (holds.0 image is)
  stage_means t owed CloseGate c holds image is = kept_means size s Older image (holds.0 image is)
  stage_means t owed SyncClosed c holds image is = kept_means size s Older image (holds.0 image is)
  stage_means t owed (CloseSlot k) c holds image is = kept_means size s Closed image (holds.0 image is)
  stage_means t owed SyncSlots c holds image is = kept_means size s Closed image (holds.0 image is)
  stage_means t owed WriteHeader c holds image is = kept_means size s Closed image (holds.0 image is)
  stage_means t owed (WriteRecord i) c holds image is = kept_means size s Closed image (holds.0 image is)
  stage_means t owed SyncRecords c holds image is = kept_means size s Closed image (holds.0 image is)
  stage_means t owed (Carry p) c holds image is = kept_means size s Closed image (holds.0 image is)
  stage_means t owed OpenGate c holds image is = kept_means size s Closed image (holds.0 image is)
  stage_means t owed SyncOpen c holds image is = turning_means t image holds.2 (holds.0 image is)

  pub after_means : (t : Standing) (owed : List (List CommandValue)) (next : Option CheckpointStage) (c : Content)
      → HoldsAfter size s t owed next c → (image : Image) → IsImage c image → KeptMeans size s.number s.state image
  after_means t owed (Some stage) c holds image is = stage_means t owed stage c holds image is
  after_means t owed None c (kept, (number, state)) image is = rw (← number, ← state) (kept_means size t Older image (kept image is))

  -- the images during a call
  pub on_the_way : (t u : Standing) (owed left : List (List CommandValue)) (stage : CheckpointStage) (next : Option CheckpointStage)
      (c : Content)
      → StageHolds size s t owed stage c → HoldsAfter size s u left next (content_after (call_at t owed stage) c)
      → HasOnTheWay (call_at t owed stage ∷ []) c (KeptMeans size s.number s.state)
  on_the_way t u owed left stage next c holds behind zero image is = stage_means t owed stage c holds image is
  on_the_way t u owed left stage next c holds behind (suc place) image is =
      after_means u left next (content_after (call_at t owed stage) c) behind image (left_behind _ image place is)
