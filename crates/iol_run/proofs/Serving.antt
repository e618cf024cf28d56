-- A core stays in step with its flusher in each turn, and the run of its journal continues.
use Rattle.std.proofs.Common.{◌≡◌, refl, Bool, true, false, List, Option, Some, None, Ok, Err, sym, subst, rules}
use Rattle.iol_types.specs.Command.{CommandValue}
use Rattle.iol_types.specs.State.{after}
use Rattle.iol_disk.specs.Disk.{Disk}
use Rattle.iol_disk.specs.declared.fault.DiskFault.{DiskFault}
use Rattle.iol_core.specs.Core.{CoreView}
use Rattle.iol_core.specs.Submit.{writes_no_more, stopped_by}
use Rattle.iol_core.specs.declared.stop.StopCause.{StopCause}
use Rattle.iol_core.specs.declared.stop.StopCause.TheVariants as cause
use Rattle.iol_flush.proofs.Turns.{goes_on}
use Rattle.iol_flush.specs.Flushing.{IsFlushing, KeepsRun}
use Rattle.iol_flush.specs.Stages.{FlusherView, failure_of}
use Rattle.iol_flush.specs.Steps.{HasAdvanced, HasMadeOfBatch, HasMadeOfCheckpoint, HasBegun, HasMade, IsDiskStep}
use Rattle.iol_flush.specs.declared.fault.FlushFault.TheVariants as fault
use Rattle.iol_flush.specs.declared.stage.FlushStage.{FlushStage}
use Rattle.iol_flush.specs.declared.stage.FlushStage.TheVariants.{Resting, Opening, Given, Checkpointing, Writing, Publishing, Failed}
use Rattle.iol_front.specs.Fronts.{Start}
use Rattle.iol_journal.specs.Begin.{wants_checkpoint}
use Rattle.iol_journal.specs.CheckpointViews.{CheckpointingView, checkpoint_of}
use Rattle.iol_journal.specs.Journals.{JournalView, WritingView, writing_of}
use Rattle.iol_journal.specs.Body.{values}
use Rattle.iol_journal.specs.declared.batch.Batch.{Batch}
use Rattle.iol_run.specs.CoreOnDisk.{IsInFlight, IsDurable, HasFlight, IsInStep, KeepsRunning}
use Rattle.iol_run.specs.Turns.{failed_core}

-- a disk call has failed, and the core knows it
pub knows : (stopped : Option StopCause) → writes_no_more (Some (stopped_by stopped cause.DiskFailed)) ≡ true
knows None = refl
knows (Some cause.Closed) = refl
knows (Some cause.DiskFailed) = refl
knows (Some cause.OutOfMemory) = refl

module _ {D : Type 0} where
  -- what a flusher has in flight after a disk call is what it had before
  written_flight : (core : CoreView) (w : WritingView D) (new : FlushStage D) → HasMadeOfBatch w new → IsInFlight core w.commands
      → HasFlight core new
  written_flight core w (Writing v) has is = subst (λ (cs : List CommandValue). IsInFlight core cs) (sym has.commands) is
  written_flight core w (Publishing j written) has is = subst (λ (cs : List CommandValue). IsInFlight core cs) (sym has.commands) is
  written_flight core w (Resting j) has is = absurd has
  written_flight core w (Opening c) has is = absurd has
  written_flight core w (Given j b) has is = absurd has
  written_flight core w (Checkpointing c b) has is = absurd has
  written_flight core w (Failed d f) has is = absurd has

  checkpointed_flight : (core : CoreView) (c : CheckpointingView D) (batch : Batch) (new : FlushStage D) → HasMadeOfCheckpoint c batch new
      → IsInFlight core (values batch.commands.items) → HasFlight core new
  checkpointed_flight core c batch (Checkpointing d kept) has is =
      subst (λ (b : Batch). IsInFlight core (values b.commands.items)) (sym has.1) is
  checkpointed_flight core c batch (Given j kept) has is = subst (λ (b : Batch). IsInFlight core (values b.commands.items)) (sym has.1) is
  checkpointed_flight core c batch (Resting j) has is = absurd has
  checkpointed_flight core c batch (Opening d) has is = absurd has
  checkpointed_flight core c batch (Writing w) has is = absurd has
  checkpointed_flight core c batch (Publishing j written) has is = absurd has
  checkpointed_flight core c batch (Failed d f) has is = absurd has

  begun_flight : (core : CoreView) (full : Bool) (j : JournalView D) (batch : Batch) (new : FlushStage D) → HasBegun full j batch new
      → IsInFlight core (values batch.commands.items) → HasFlight core new
  begun_flight core true j batch new has is = checkpointed_flight core (checkpoint_of j) batch new has.1 is
  begun_flight core false j batch new has is = written_flight core (writing_of j (values batch.commands.items)) new has.1 is

  -- nothing is in flight during a checkpoint for which no batch waits
  advanced_flight : (core : CoreView) (c : CheckpointingView D) (new : FlushStage D) → HasAdvanced c new → core.flight ≡ 0
      → HasFlight core new
  advanced_flight core c (Resting j) has is = is
  advanced_flight core c (Opening d) has is = is
  advanced_flight core c (Given j b) has is = absurd has
  advanced_flight core c (Checkpointing d b) has is = absurd has
  advanced_flight core c (Writing w) has is = absurd has
  advanced_flight core c (Publishing j written) has is = absurd has
  advanced_flight core c (Failed d f) has is = absurd has

  pub made_flight : (core : CoreView) (old new : FlushStage D) → HasMade old new → HasFlight core old → HasFlight core new
  made_flight core (Given j batch) new has is =
      begun_flight core (wants_checkpoint j.standing (values batch.commands.items)) j batch new has is
  made_flight core (Checkpointing c batch) new has is = checkpointed_flight core c batch new has is
  made_flight core (Writing w) new has is = written_flight core w new has is
  made_flight core (Resting j) new has is = advanced_flight core (checkpoint_of j) new has.1 is
  made_flight core (Opening c) new has is = advanced_flight core c new has is
  made_flight core (Publishing j written) new has is = absurd has
  made_flight core (Failed d f) new has is = absurd has

  pub failed_flight : (core : CoreView) (new : FlushStage D) (why : DiskFault) → failure_of new ≡ Some why
      → HasFlight (failed_core core) new
  failed_flight core (Failed d f) why is = knows core.stopped
  failed_flight core (Resting j) why is = search rules
  failed_flight core (Opening c) why is = search rules
  failed_flight core (Given j b) why is = search rules
  failed_flight core (Checkpointing c b) why is = search rules
  failed_flight core (Writing w) why is = search rules
  failed_flight core (Publishing j written) why is = search rules

module _ {D : Type 0} (disk : D → Disk) (start : Start) where
  pub called_in_step : (core : CoreView) (old new : FlusherView D) → new.published ≡ old.published
      → IsDiskStep disk old.stage new.stage (Ok tt)
      → IsInStep start core old None → IsInStep start core new None
  called_in_step core old new same step is = (
    subst (λ (cs : List CommandValue). IsDurable start core cs) (sym same) is.0,
    made_flight core old.stage new.stage step.0 is.1,
    goes_on disk old.stage new.stage (Ok tt) step is.2,
  )

  pub failed_in_step : (core : CoreView) (old new : FlusherView D) (why : DiskFault) → new.published ≡ old.published
      → IsDiskStep disk old.stage new.stage (Err (fault.Disk why)) → IsInStep start core old None
      → IsInStep start (failed_core core) new None
  failed_in_step core old new why same step is = (
    subst (λ (cs : List CommandValue). IsDurable start (failed_core core) cs) (sym same)
        (record { number = is.0.number; state = is.0.state }),
    failed_flight core new.stage why step.0,
    goes_on disk old.stage new.stage (Err (fault.Disk why)) step is.2,
  )

  -- the run continues with a disk call
  pub called_running : (core after : CoreView) (old new : FlusherView D) → new.published ≡ old.published → after.queue ≡ core.queue
      → KeepsRun disk old.stage new.stage
      → KeepsRunning disk start (record { core = core; flusher = old; committed = None })
      (record { core = after; flusher = new; committed = None })
  called_running core after old new same queue keeps = record {
    goes_on = λ marks was.
        subst (λ (cs : List CommandValue). IsFlushing disk start.number start.state cs after.queue marks new.stage) (sym same)
        (subst (λ (cs : List CommandValue). IsFlushing disk start.number start.state old.published cs marks new.stage) (sym queue)
        (keeps.goes_on start.number start.state old.published core.queue marks was));
  }
