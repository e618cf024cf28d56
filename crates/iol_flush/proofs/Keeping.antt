-- A run of a journal continues over each disk call.
use Rattle.std.proofs.Common.{◌≡◌, refl, List, [], ◌++◌, Option, None, sym, ◌∙◌, ap, subst}
use Rattle.iol_types.specs.Command.{CommandValue}
use Rattle.iol_disk.specs.Disk.{Disk}
use Rattle.iol_disk.specs.declared.fault.DiskFault.{DiskFault}
use Rattle.iol_journal.specs.CheckpointRuns.{IsRunCheckpointing}
use Rattle.iol_journal.specs.BegunViews.{BegunView}
use Rattle.iol_journal.specs.CheckpointViews.{CheckpointingView}
use Rattle.iol_journal.specs.Pauses.{IsPaused}
use Rattle.iol_journal.specs.Journals.{JournalView, WritingView}
use Rattle.iol_journal.specs.Body.{values}
use Rattle.iol_journal.specs.Runs.{Run, IsRun, with_batch_begun, with_batch_written}
use Rattle.iol_journal.specs.Running.{IsRunAtRest, IsRunWriting}
use Rattle.iol_journal.specs.Phases.{IsAtRest}
use Rattle.iol_journal.specs.Written.{WrittenView}
use Rattle.iol_journal.specs.declared.batch.Batch.{Batch}
use Rattle.iol_flush.specs.Flushing.{run_of, KeepsRun, Rests}
use Rattle.iol_flush.specs.declared.stage.FlushStage.{FlushStage}
use Rattle.iol_flush.specs.declared.stage.FlushStage.TheVariants.{Resting, Opening, Given, Checkpointing, Writing, Publishing, Failed}

pub keeps_self : {D : Type 0} (disk : D → Disk) (stage : FlushStage D) → KeepsRun disk stage stage
keeps_self disk stage = record { goes_on = λ number state published waiting marks was. was }

-- a batch is still being written
pub still_written : {D : Type 0} (disk : D → Disk) (w v : WritingView D) → v.commands ≡ w.commands
    → ((r : Run) → IsRunWriting disk r w → IsRunWriting disk r v) → KeepsRun disk (Writing w) (Writing v)
still_written disk w v same goes = record {
  goes_on = λ number state published waiting marks was. (
    was.0,
    was.1 ∙ ap (λ (cs : List CommandValue). cs ++ was.0) (sym same),
    subst (λ (cs : List CommandValue). IsRunWriting disk (run_of number state published cs was.0 marks) v) (sym same)
        (goes (run_of number state published w.commands was.0 marks) was.2),
  );
}

-- the batch is durable
pub is_written : {D : Type 0} (disk : D → Disk) (w : WritingView D) (j : JournalView D) (written : WrittenView) → written.commands
    ≡ w.commands
    → ((r : Run) → IsRunWriting disk r w → IsRunAtRest disk (with_batch_written r) j) → KeepsRun disk (Writing w) (Publishing j written)
is_written disk w j written same goes = record {
  goes_on = λ number state published waiting marks was. (
    was.0,
    was.1 ∙ ap (λ (cs : List CommandValue). cs ++ was.0) (sym same),
    subst (λ (cs : List CommandValue). IsRunAtRest disk (run_of number state (published ++ cs) [] was.0 marks) j) (sym same)
        (goes (run_of number state published w.commands was.0 marks) was.2),
  );
}

-- a call of it failed
pub not_written : {D : Type 0} (disk : D → Disk) (w : WritingView D) (left : D) (fault : DiskFault)
    → ((r : Run) → IsRunWriting disk r w → IsRun (disk left) r) → KeepsRun disk (Writing w) (Failed left fault)
not_written disk w left fault goes = record {
  goes_on = λ number state published waiting marks was.
      (w.commands, was.0, was.1, goes (run_of number state published w.commands was.0 marks) was.2);
}

-- a checkpoint is still being written
pub still_checkpointed : {D : Type 0} (disk : D → Disk) (c d : CheckpointingView D) (batch : Batch)
    → ((r : Run) → IsRunCheckpointing disk r c → IsRunCheckpointing disk r d)
    → KeepsRun disk (Checkpointing c batch) (Checkpointing d batch)
still_checkpointed disk c d batch goes = record {
  goes_on = λ number state published waiting marks was.
      (was.0, goes (run_of number state published [] waiting marks) was.1);
}

-- it is done
pub is_checkpointed : {D : Type 0} (disk : D → Disk) (c : CheckpointingView D) (j : JournalView D) (batch : Batch)
    → ((r : Run) → IsRunCheckpointing disk r c → IsRunAtRest disk r j) → KeepsRun disk (Checkpointing c batch) (Given j batch)
is_checkpointed disk c j batch goes = record {
  goes_on = λ number state published waiting marks was.
      (was.0, goes (run_of number state published [] waiting marks) was.1);
}

-- a call of it failed
pub not_checkpointed : {D : Type 0} (disk : D → Disk) (c : CheckpointingView D) (left : D) (batch : Batch) (fault : DiskFault)
    → ((r : Run) → IsRunCheckpointing disk r c → IsRun (disk left) r) → KeepsRun disk (Checkpointing c batch) (Failed left fault)
not_checkpointed disk c left batch fault goes = record {
  goes_on = λ number state published waiting marks was.
      ([], waiting, refl, goes (run_of number state published [] waiting marks) was.1);
}

-- a checkpoint for which a batch waits is begun
pub begins_checkpoint : {D : Type 0} (disk : D → Disk) (j : JournalView D) (c : CheckpointingView D) (batch : Batch) (new : FlushStage D)
    → ((r : Run) → IsRunAtRest disk r j → IsRunCheckpointing disk r c) → KeepsRun disk (Checkpointing c batch) new
    → KeepsRun disk (Given j batch) new
begins_checkpoint disk j c batch new goes keeps = record {
  goes_on = λ number state published waiting marks was.
      keeps.goes_on number state published waiting marks (was.0, goes (run_of number state published [] waiting marks) was.1);
}

-- a batch is begun
pub begins_batch : {D : Type 0} (disk : D → Disk) (j : JournalView D) (w : WritingView D) (batch : Batch) (new : FlushStage D) → w.commands
    ≡ values batch.commands.items
    → ((r : Run) (behind : List CommandValue) → r.queued ≡ values batch.commands.items ++ behind → IsRunAtRest disk r j
    → IsRunWriting disk (with_batch_begun r (values batch.commands.items) behind) w)
    → KeepsRun disk (Writing w) new → KeepsRun disk (Given j batch) new
begins_batch disk j w batch new same goes keeps = record {
  goes_on = λ number state published waiting marks was.
      keeps.goes_on number state published waiting marks (
        was.0.0,
        was.0.1 ∙ ap (λ (cs : List CommandValue). cs ++ was.0.0) (sym same),
        subst (λ (cs : List CommandValue). IsRunWriting disk (run_of number state published cs was.0.0 marks) w) (sym same)
            (goes (run_of number state published [] waiting marks) was.0.0 was.0.1 was.1),
      );
}

-- a checkpoint for which no batch waits is continued
pub goes_from_rest : {D : Type 0} (disk : D → Disk) (j : JournalView D) (c : CheckpointingView D) (new : FlushStage D)
    → ((r : Run) → IsRunAtRest disk r j → IsRunCheckpointing disk r c) → KeepsRun disk (Opening c) new → KeepsRun disk (Resting j) new
goes_from_rest disk j c new goes keeps = record {
  goes_on = λ number state published waiting marks was.
      keeps.goes_on number state published waiting marks (goes (run_of number state published [] waiting marks) was);
}

-- it is still being written
pub then_keeps : {D : Type 0} (disk : D → Disk) (c d : CheckpointingView D) (new : FlushStage D)
    → ((r : Run) → IsRunCheckpointing disk r c → IsRunCheckpointing disk r d) → KeepsRun disk (Opening d) new
    → KeepsRun disk (Opening c) new
then_keeps disk c d new goes keeps = record {
  goes_on = λ number state published waiting marks was.
      keeps.goes_on number state published waiting marks (goes (run_of number state published [] waiting marks) was);
}

-- it is done, or paused
pub comes_to_rest : {D : Type 0} (disk : D → Disk) (c : CheckpointingView D) (j : JournalView D)
    → ((r : Run) → IsRunCheckpointing disk r c → IsRunAtRest disk r j) → KeepsRun disk (Opening c) (Resting j)
comes_to_rest disk c j goes = record {
  goes_on = λ number state published waiting marks was. goes (run_of number state published [] waiting marks) was;
}

-- a call of it failed
pub not_gone_on : {D : Type 0} (disk : D → Disk) (c : CheckpointingView D) (left : D) (fault : DiskFault)
    → ((r : Run) → IsRunCheckpointing disk r c → IsRun (disk left) r) → KeepsRun disk (Opening c) (Failed left fault)
not_gone_on disk c left fault goes = record {
  goes_on = λ number state published waiting marks was. ([], waiting, refl, goes (run_of number state published [] waiting marks) was);
}

-- nothing changes
pub keeps_rested : {D : Type 0} (disk : D → Disk) (j k : JournalView D) → k ≡ j → KeepsRun disk (Resting j) (Resting k)
keeps_rested {D} disk j k same =
    subst (λ (l : JournalView D). KeepsRun disk (Resting j) (Resting l)) (sym same) (keeps_self disk (Resting j))

pub keeps_given : {D : Type 0} (disk : D → Disk) (j k : JournalView D) (batch same : Batch) → k ≡ j → same ≡ batch
    → KeepsRun disk (Given j batch) (Given k same)
keeps_given {D} disk j k batch same journal_is batch_is =
    subst (λ (l : JournalView D). KeepsRun disk (Given j batch) (Given l same)) (sym journal_is)
    (subst (λ (b : Batch). KeepsRun disk (Given j batch) (Given j b)) (sym batch_is) (keeps_self disk (Given j batch)))

-- a returned journal is at rest as before
pub rests_still : {D : Type 0} (disk : D → Disk) (j back : JournalView D) → back ≡ j → Rests disk j → Rests disk back
rests_still {D} disk j back same rest = subst (λ (x : JournalView D). Rests disk x) (sym same) rest

-- after a checkpoint none is paused
pub rests_after : {D : Type 0} (disk : D → Disk) (j : JournalView D) → IsAtRest (disk j.disk) j.standing j.idle → j.begun ≡ None
    → Rests disk j
rests_after disk j rest none =
    (rest, subst (λ (begun : Option BegunView). IsPaused (disk j.disk) j.standing begun) (sym none) tt)
