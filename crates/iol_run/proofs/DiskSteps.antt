-- The effect of a step on the disk, and what the step reports of it.
use Rattle.std.proofs.Common.{◌≡◌, refl, ⊎_elim, ℕ, nat_le, Bool, true, false, List, [], ◌∷◌, ◌++◌, length, Option, Some, None, Result, Ok}
use Rattle.std.proofs.Common.{Err, ap, sym, subst}
use Rattle.iol_types.specs.Command.{CommandValue, command_of}
use Rattle.iol_core.specs.Core.{CoreView}
use Rattle.iol_core.specs.declared.ticket.SubmitFault.{SubmitFault}
use Rattle.iol_disk.specs.Calls.{Call, MakesFirst}
use Rattle.iol_disk.specs.Disk.{Disk}
use Rattle.iol_disk.specs.declared.fault.DiskFault.{DiskFault}
use Rattle.iol_flush.specs.Stages.{FlusherView, disk_of}
use Rattle.iol_flush.specs.Steps.{HasTaken, HasPublished}
use Rattle.iol_flush.specs.declared.need.Need.{Need}
use Rattle.iol_flush.specs.declared.need.Need.TheVariants as need
use Rattle.iol_flush.specs.declared.stage.FlushStage.{FlushStage}
use Rattle.iol_flush.specs.declared.stage.FlushStage.TheVariants.{Resting, Opening, Given, Checkpointing, Writing, Publishing, Failed}
use Rattle.iol_front.specs.Fronts.{CommittedView}
use Rattle.iol_journal.specs.declared.batch.Batch.{Batch}
use Rattle.iol_link.specs.Link.{LinkCall, LinkAnswer}
use Rattle.iol_core.proofs.Words.{failure-append}
use Rattle.iol_core.specs.Events.{Event, DiskFailed, stamped}
use Rattle.iol_core.specs.Words.{IsFailure, HasFailure}
use Rattle.iol_engine.proofs.Changes.{Change, Permits, Waits, Tells}
use Rattle.iol_engine.proofs.PortCalls.{step_becomes}
use Rattle.iol_engine.proofs.Quiet.{quiet_fails, stamped_both}
use Rattle.iol_run.specs.CoreOnDisk.{CoreOnDiskView}
use Rattle.iol_engine.specs.Ports.{PortsView}
use Rattle.iol_run.specs.Ports.{StepsIf}
use Rattle.iol_engine.specs.Submitted.{submit_told}
use Rattle.iol_run.specs.Steps.{Does}
use Rattle.iol_run.specs.Turns.{Takes, HasCalled, Serves, IsTurn, met_by}
use Rattle.iol_run.specs.declared.turn.Turned.{Turned}
use Rattle.iol_run.specs.declared.turn.Turned.TheVariants.{Made, Idle, Waited}
use Rattle.iol_run.specs.declared.step.Step.{Step}
use Rattle.iol_run.specs.declared.step.Step.TheVariants.{Client, Port, Flush}

-- events that report no failure
abbrev pub TellsNone : List Event → Type 0
TellsNone told = (t : ℕ) → HasFailure (stamped t told) → ⊥

-- the disk stays, and no failure is reported; a call is made, and nothing is reported; or one fails, and that is reported
pub data DiskStep (old new : Disk) (told : List Event) : Type 0 where
  Stays : (same : new ≡ old) (sound : TellsNone told) → DiskStep old new told
  Makes : (calls left : List Call) (made : MakesFirst calls left old new (Ok tt)) (silent : told ≡ []) → DiskStep old new told
  Fails : (calls left : List Call) (why : DiskFault) (failed : MakesFirst calls left old new (Err why))
      (telling : told ≡ DiskFailed ∷ []) → DiskStep old new told

silent : (told : List Event) → told ≡ [] → TellsNone told
silent told is t failed = subst (λ (es : List Event). HasFailure (stamped t es)) is failed

telling : (told : List Event) (e : Event) → told ≡ e ∷ [] → (IsFailure e → ⊥) → TellsNone told
telling told e is sound t failed = ⊎_elim sound (λ never. never) (subst (λ (es : List Event). HasFailure (stamped t es)) is failed)

submitting : (told : List Event) (command : CommandValue) (answer : Result ℕ SubmitFault) → told ≡ submit_told command answer
    → TellsNone told
submitting told command (Ok n) is = telling told _ is (λ never. never)
submitting told command (Err f) is = telling told _ is (λ never. never)

-- a call of a port reports no failure, and neither does its status
changing : (old : CoreView) (change : Change) (told : List Event) → Tells old change told → TellsNone told
changing old (Permits permits) told tells t failed = quiet_fails t told tells failed
changing old (Waits command permits) told tells t failed = telling told _ tells (λ never. never) t failed

both : (called status : List Event) → TellsNone called → TellsNone status → TellsNone (called ++ status)
both called status one two t failed =
    ⊎_elim (one t) (two t)
    (failure-append (stamped t called) (stamped t status) (subst (λ ss. HasFailure ss) (stamped_both t called status) failed))

module _ {D : Type 0} (disk : D → Disk) where
  abbrev StageStep : FlushStage D → FlushStage D → List Event → Type 0
  StageStep old new told = DiskStep (disk (disk_of old)) (disk (disk_of new)) told

  flusher_same : (old new : CoreOnDiskView D) (told : List Event) → new.flusher ≡ old.flusher → TellsNone told
      → StageStep old.flusher.stage new.flusher.stage told
  flusher_same old new told same sound = Stays (ap (λ (f : FlusherView D). disk (disk_of f.stage)) same) sound

  master_same : (old new : CoreOnDiskView D) (told : List Event) → new ≡ old → TellsNone told
      → StageStep old.flusher.stage new.flusher.stage told
  master_same old new told same sound = flusher_same old new told (ap (λ (m : CoreOnDiskView D). m.flusher) same) sound

  taken_disk : (s t : FlushStage D) (batch : Batch) → HasTaken s batch t → disk (disk_of t) ≡ disk (disk_of s)
  taken_disk (Resting j) t batch has = ap (λ (u : FlushStage D). disk (disk_of u)) has
  taken_disk (Opening c) t batch has = absurd has
  taken_disk (Given j b) t batch has = absurd has
  taken_disk (Checkpointing c b) t batch has = absurd has
  taken_disk (Writing w) t batch has = absurd has
  taken_disk (Publishing j written) t batch has = absurd has
  taken_disk (Failed d f) t batch has = absurd has

  published_disk : (s : FlushStage D) (published : List CommandValue) (new : FlusherView D) (committed : CommittedView)
      → HasPublished s published new committed
      → disk (disk_of new.stage) ≡ disk (disk_of s)
  published_disk (Publishing j written) published new committed has = ap (λ (f : FlusherView D). disk (disk_of f.stage)) has.0
  published_disk (Resting j) published new committed has = absurd has
  published_disk (Opening c) published new committed has = absurd has
  published_disk (Given j b) published new committed has = absurd has
  published_disk (Checkpointing c b) published new committed has = absurd has
  published_disk (Writing w) published new committed has = absurd has
  published_disk (Failed d f) published new committed has = absurd has

  takes_step : (old new : CoreOnDiskView D) (told : List Event) (turned : Turned) → Takes old new told turned
      → StageStep old.flusher.stage new.flusher.stage told
  takes_step old new told Made is = Stays (taken_disk old.flusher.stage new.flusher.stage is.0 is.2) (silent told is.5)
  takes_step old new told Idle is = master_same old new told is.1 (silent told is.2)
  takes_step old new told Waited is = master_same old new told is.1 (silent told is.2)

  called_step : (old new : CoreOnDiskView D) (told : List Event) → HasCalled disk old new told
      → StageStep old.flusher.stage new.flusher.stage told
  called_step old new [] is = Makes _ _ is.1.1 refl
  called_step old new (e ∷ told) is = Fails _ _ is.0 is.3.2 is.1

  serves_step : (needs : Need) (old new : CoreOnDiskView D) (told : List Event) (turned : Turned) → Serves disk needs old new told turned
      → StageStep old.flusher.stage new.flusher.stage told
  serves_step need.Batch old new told turned is = takes_step old new told turned is
  serves_step need.Disk old new told Made is = called_step old new told is.2
  serves_step need.Disk old new told Idle is = absurd is
  serves_step need.BatchOrDisk old new told turned is = absurd is
  serves_step need.Disk old new told Waited is = master_same old new told is.1 (silent told is.2)
  serves_step need.Publish old new told turned is =
      Stays (published_disk old.flusher.stage old.flusher.published new.flusher is.1.0 is.1.1) (silent told is.1.4)
  serves_step need.Stopped old new told turned is = master_same old new told is.1 (silent told is.2)

  turn_step : (committed : Option CommittedView) (old new : CoreOnDiskView D) (told : List Event) (turned : Turned)
      → IsTurn disk committed old new told turned
      → StageStep old.flusher.stage new.flusher.stage told
  turn_step (Some committed) old new told turned is = flusher_same old new told is.1.1 (telling told _ is.1.3 (λ never. never))
  turn_step None old new told turned is = serves_step (met_by old) old new told turned is

  module _ {L : Type 0} (connection : L → ℕ) (allows : L → LinkCall → LinkAnswer → L → Type 0) where
    port_step : (there : Bool) (port : ℕ) (old new : CoreOnDiskView D) (ports last : PortsView L) (told : List Event)
        → StepsIf connection allows there port old new ports last told → StageStep old.flusher.stage new.flusher.stage told
    port_step true port old new ports last told is =
        let becomes = step_becomes connection allows is.before is.after is.link is.linked old.core new.core is.called is.status
        is.steps_as in
        flusher_same old new told is.flusher
        (subst (λ (es : List Event). TellsNone es) (sym is.told_is)
        (both is.called is.status (changing old.core becomes.0.change is.called becomes.0.tells) (λ t failed.
        quiet_fails t is.status becomes.1 failed)))
    port_step false port old new ports last told is = master_same old new told is.0 (silent told is.2)

    -- each step does one of these
    pub disk_step : (step : Step) (old new : CoreOnDiskView D) (ports last : PortsView L) (told : List Event) (turned : Turned)
        → Does disk connection allows step old new ports last told turned → StageStep old.flusher.stage new.flusher.stage told
    disk_step (Client change) old new ports last told turned is =
        flusher_same old new told is.2.2 (submitting told (command_of change) is.2.0 is.2.4)
    disk_step (Port port) old new ports last told turned is = port_step (nat_le port (length ports.links)) port old new ports last told is.1
    disk_step Flush old new ports last told turned is = turn_step old.committed old new told turned is.1
