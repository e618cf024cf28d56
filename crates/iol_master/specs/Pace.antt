-- The flusher's pace for a checkpoint that it makes between batches.
use Rattle.std.specs.Prelude.{◌≡◌, ℕ, Bool, true, false}
use Rattle.iol_flush.specs.declared.stage.FlushStage.{FlushStage}
use Rattle.iol_flush.specs.declared.stage.FlushStage.TheVariants.{Resting, Opening, Given}
use Rattle.iol_master.specs.declared.finding.SearchResult.{SearchResult}
use Rattle.iol_master.specs.declared.finding.SearchResult.TheVariants.{Batch, Nothing, Closed, NoMemory}
use Rattle.iol_master.specs.declared.pace.Checkpoint.{Checkpoint}
use Rattle.iol_master.specs.declared.pace.Checkpoint.TheVariants.{Due, Begun, Owing}

-- the longest wait for a batch, in microseconds (own)
abbrev pub longest_delay : ℕ
longest_delay = 20000

-- the flusher's pace, as contracts see it: for how many microseconds it waits for a batch, and the progress of the checkpoint (own)
pub record PaceView : Type 0 where
  pub microseconds : ℕ
  pub checkpoint : Checkpoint

-- the progress of a checkpoint after a search for a batch: if nothing was found, one of its calls is made; a batch that is given once it
-- has begun is owed to it (own)
abbrev pub after : Checkpoint → SearchResult → Checkpoint
after Due (Batch batch) = Due
after Begun (Batch batch) = Owing
after Due Nothing = Begun
after checkpoint found = checkpoint

-- a batch is owed to the checkpoint (own)
abbrev pub is_owing : Checkpoint → Bool
is_owing Due = false
is_owing Begun = false
is_owing Owing = true

-- while a batch is owed to the checkpoint, the search takes no batch, and so lacks no memory for one (own)
abbrev pub MayFind : Checkpoint → SearchResult → Type 0
MayFind Owing (Batch batch) = ⊥
MayFind Owing NoMemory = ⊥
MayFind checkpoint found = Unit {0}

-- a disk call gives no batch to a flusher at rest (own)
abbrev pub GivesNone : {D : Type 0} → FlushStage D → FlushStage D → Type 0
GivesNone (Resting journal) (Given other batch) = ⊥
GivesNone old new = Unit {0}

-- a flusher at rest gets no batch while one is owed to the checkpoint (own)
abbrev pub MayGive : {D : Type 0} → Checkpoint → FlushStage D → FlushStage D → Type 0
MayGive Owing (Resting journal) (Given other batch) = ⊥
MayGive checkpoint old new = Unit {0}

-- a checkpoint that counts as due after a turn got no call in that turn (own)
abbrev pub IsBegun : {D : Type 0} → Checkpoint → FlushStage D → FlushStage D → Type 0
IsBegun Due (Resting journal) (Opening checkpointing) = ⊥
IsBegun Due (Resting journal) (Resting left) = left.begun ≡ journal.begun
IsBegun checkpoint old new = Unit {0}

-- if no batch was found, the next wait is 0 microseconds long (own)
abbrev pub IsSpent : SearchResult → ℕ → Type 0
IsSpent Nothing microseconds = microseconds ≡ 0
IsSpent found microseconds = Unit {0}

-- the pace follows what the flusher finds (own)
pub record Follows (old : PaceView) (found : SearchResult) (new : PaceView) : Type 0 where
  pub checkpoint : new.checkpoint ≡ after old.checkpoint found
  pub spent : IsSpent found new.microseconds
