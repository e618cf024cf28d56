-- Bounds on the calls that a flusher still needs for its batch.
use Rattle.std.specs.Prelude.{ℕ, ◌+◌, ◌*◌, nat_lt, Bool, if◌then◌else◌, List, length, Option, Some, None}
use Rattle.iol_types.specs.Command.{CommandValue}
use Rattle.iol_journal.specs.BegunViews.{BegunView}
use Rattle.iol_journal.specs.CheckpointViews.{CheckpointingView, end_of, stages_left}
use Rattle.iol_journal.specs.Journals.{calls_left}
use Rattle.iol_journal.specs.Body.{values}
use Rattle.iol_journal.specs.Begin.{wants_checkpoint}
use Rattle.iol_journal.specs.Layout.{Layout, is_renewed, renewed}
use Rattle.iol_flush.specs.Stages.{most_batch_calls, most_checkpoint_calls}
use Rattle.iol_flush.specs.declared.stage.FlushStage.{FlushStage}
use Rattle.iol_flush.specs.declared.stage.FlushStage.TheVariants.{Resting, Opening, Given, Checkpointing, Writing, Publishing, Failed}

-- the largest number of calls that free the slots for a batch: a checkpoint and, if one was paused, another one, because the batches
-- that the first carries may leave too few slots (own)
abbrev pub freeing_calls : Layout → Option BegunView → ℕ
freeing_calls layout None = most_checkpoint_calls layout + 1
freeing_calls layout (Some begun) = 2 * (most_checkpoint_calls layout + 1)

-- the largest number of disk calls that free the slots for a batch, and one more call that looks for free slots (own)
abbrev pub most_freeing_calls : Layout → ℕ
most_freeing_calls layout = 2 * most_checkpoint_calls layout + 1

-- the largest number of calls until a given batch is published: those that free slots if too few are free, its disk calls, and the
-- publishing (own)
abbrev pub given_calls : Layout → List CommandValue → Option BegunView → Bool → ℕ
given_calls layout commands begun full = most_batch_calls commands + 2 + (if full then freeing_calls layout begun else 0)

-- the calls of another checkpoint, needed if this one carries batches (own)
abbrev pub calls_again : {D : Type 0} → CheckpointingView D → ℕ
calls_again c = if nat_lt 0 (end_of c).used then most_checkpoint_calls (renewed c.standing.layout) + 1 else 0

-- the largest number of calls until a batch is accepted while none is given: those of the checkpoint that renews an older layout,
-- and the remaining ones of a checkpoint that cannot be paused (own)
abbrev pub opening_calls : {D : Type 0} → FlushStage D → ℕ
opening_calls (Resting journal) =
    if is_renewed journal.standing.layout then 0 else most_checkpoint_calls (renewed journal.standing.layout) + 1
opening_calls (Opening checkpoint) = length (stages_left checkpoint)
opening_calls stage = 0

-- the largest number of calls until the batch of a flusher is published; 0 if it has no batch or the disk failed (own)
abbrev pub calls_needed : {D : Type 0} → FlushStage D → ℕ
calls_needed (Resting journal) = 0
calls_needed (Opening checkpoint) = 0
calls_needed (Given journal batch) =
    given_calls (renewed journal.standing.layout) (values batch.commands.items) journal.begun
    (wants_checkpoint journal.standing (values batch.commands.items))
calls_needed (Checkpointing checkpoint batch) =
    most_batch_calls (values batch.commands.items) + 2 + length (stages_left checkpoint) + calls_again checkpoint
calls_needed (Writing writing) = 1 + length (calls_left writing)
calls_needed (Publishing journal written) = 1
calls_needed (Failed disk fault) = 0
