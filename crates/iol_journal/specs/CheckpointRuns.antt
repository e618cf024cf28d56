-- A run while a checkpoint is being written.
use Rattle.std.specs.Prelude.{◌≡◌, []}
use Rattle.iol_disk.specs.Disk.{Disk}
use Rattle.iol_journal.specs.CheckpointViews.{CheckpointingView, IsCheckpointUnderway}
use Rattle.iol_journal.specs.Runs.{Run, IsRun}
use Rattle.iol_journal.specs.Running.{IsRunAt, IsRunAtRest}
use Rattle.iol_journal.specs.declared.checkpointing.CheckpointProgress.{CheckpointProgress}
use Rattle.iol_journal.specs.declared.checkpointing.CheckpointProgress.TheVariants.{More, Done, Failed}

-- a run whose journal is being checkpointed: no batch is underway (own)
abbrev pub IsRunCheckpointing : {D : Type 0} → (D → Disk) → Run → CheckpointingView D → Type 0
IsRunCheckpointing disk r c = IsCheckpointUnderway disk c × IsRunAt (disk c.disk) c.standing r × (r.underway ≡ [])

-- a run after a step of a checkpoint: the checkpoint is still being written, or is done; after a disk fault it
-- is still a run (own)
abbrev pub HasCheckpointed : {D : Type 0} → (D → Disk) → Run → CheckpointProgress D → Type 0
HasCheckpointed disk r (More checkpointing) = IsRunCheckpointing disk r checkpointing
HasCheckpointed disk r (Done journal) = IsRunAtRest disk r journal
HasCheckpointed disk r (Failed left fault) = IsRun (disk left) r
