-- What a turn of the flusher does.
use Rattle.std.specs.Prelude.{◌≡◌, Bool, false, true, if◌then◌else◌, List, [], ◌∷◌, Option, Some, None, Ok, Err}
use Rattle.iol_disk.specs.Disk.{Disk}
use Rattle.iol_disk.specs.declared.fault.DiskFault.{DiskFault}
use Rattle.iol_core.specs.Batches.{IsTaken, has_batch, acknowledged}
use Rattle.iol_core.specs.Core.{CoreView}
use Rattle.iol_core.specs.Submit.{stopped_by}
use Rattle.iol_core.specs.declared.stop.StopCause.TheVariants as cause
use Rattle.iol_flush.specs.Stages.{need_of, room_of, HasFewCalls}
use Rattle.iol_flush.specs.Steps.{IsDiskStep, HasTaken, HasPublished, MayWant}
use Rattle.iol_flush.specs.declared.fault.FlushFault.TheVariants as fault
use Rattle.iol_flush.specs.declared.need.Need.{Need}
use Rattle.iol_flush.specs.declared.need.Need.TheVariants as need
use Rattle.iol_front.specs.Fronts.{CommittedView}
use Rattle.iol_journal.specs.declared.batch.Batch.{Batch}
use Rattle.iol_core.specs.Events.{Event, Acknowledged, DiskFailed}
use Rattle.iol_run.specs.CoreOnDisk.{CoreOnDiskView}
use Rattle.iol_run.specs.declared.turn.Turned.{Turned}
use Rattle.iol_run.specs.declared.turn.Turned.TheVariants.{Made, Idle, Waited}

-- the published batch is acknowledged with its last number, and the core's own pass has seen it (own)
abbrev pub Acknowledges : {D : Type 0} → CoreOnDiskView D → CoreOnDiskView D → List Event → Type 0
Acknowledges old new told =
    (new.core ≡ acknowledged old.core new.core.seen) × (new.flusher ≡ old.flusher) × (new.committed ≡ None)
    × (told ≡ Acknowledged new.core.number ∷ [])

-- a batch of the core that fits is taken and given to the flusher; or there is none, or memory runs out, and nothing changes
-- (own)
abbrev pub Takes : {D : Type 0} → CoreOnDiskView D → CoreOnDiskView D → List Event → Turned → Type 0
Takes old new told Made =
    (batch : Batch) × IsTaken old.core (room_of old.flusher.stage) new.core batch × HasTaken old.flusher.stage batch new.flusher.stage
    × (new.flusher.published ≡ old.flusher.published) × (new.committed ≡ None) × (told ≡ [])
Takes old new told Idle = (has_batch old.core ≡ false) × (new ≡ old) × (told ≡ [])
Takes old new told Waited = (has_batch old.core ≡ true) × (new ≡ old) × (told ≡ [])

-- the core after a disk call that failed (own)
abbrev pub failed_core : CoreView → CoreView
failed_core core = record core { stopped = Some (stopped_by core.stopped cause.DiskFailed) }

-- a disk call is made, after which few calls are left for what the flusher is doing; or it fails, which is reported (own)
abbrev pub HasCalled : {D : Type 0} → (D → Disk) → CoreOnDiskView D → CoreOnDiskView D → List Event → Type 0
HasCalled disk old new [] =
    (new.core ≡ old.core) × IsDiskStep disk old.flusher.stage new.flusher.stage (Ok tt) × HasFewCalls new.flusher.stage
HasCalled disk old new told =
    (failed : DiskFault) × (told ≡ DiskFailed ∷ []) × (new.core ≡ failed_core old.core)
    × IsDiskStep disk old.flusher.stage new.flusher.stage (Err (fault.Disk failed))

-- the next disk call is made; or it fails, which is reported, and the core knows it; or memory runs out as a batch or a
-- checkpoint is begun, and nothing changes (own)
abbrev pub CallsDisk : {D : Type 0} → (D → Disk) → CoreOnDiskView D → CoreOnDiskView D → List Event → Turned → Type 0
CallsDisk disk old new told Made =
    (new.flusher.published ≡ old.flusher.published) × (new.committed ≡ None) × HasCalled disk old new told
CallsDisk disk old new told Idle = ⊥
CallsDisk disk old new told Waited = MayWant old.flusher.stage × (new ≡ old) × (told ≡ [])

-- the durable batch is published, and is to be acknowledged (own)
abbrev pub Publishes : {D : Type 0} → CoreOnDiskView D → CoreOnDiskView D → List Event → Type 0
Publishes old new told =
    (committed : CommittedView) × HasPublished old.flusher.stage old.flusher.published new.flusher committed
    × (new.core ≡ old.core) × (new.committed ≡ Some committed) × (told ≡ [])

-- the need that a turn meets: of a batch or a disk call it is the batch if one may be taken, or else the disk call (own)
abbrev pub need_met : Need → Bool → Need
need_met need.BatchOrDisk waits = if waits then need.Batch else need.Disk
need_met other waits = other

abbrev pub met_by : {D : Type 0} → CoreOnDiskView D → Need
met_by master = need_met (need_of master.flusher.stage) (has_batch master.core)

-- if no batch is to be acknowledged, a turn meets this need: it takes a batch, makes a disk call or publishes a batch; after a
-- failure it does nothing (own)
abbrev pub Serves : {D : Type 0} → (D → Disk) → Need → CoreOnDiskView D → CoreOnDiskView D → List Event → Turned → Type 0
Serves disk need.Batch old new told turned = Takes old new told turned
Serves disk need.Disk old new told turned = CallsDisk disk old new told turned
Serves disk need.BatchOrDisk old new told turned = ⊥
Serves disk need.Publish old new told turned = (turned ≡ Made) × Publishes old new told
Serves disk need.Stopped old new told turned = (turned ≡ Idle) × (new ≡ old) × (told ≡ [])

-- a turn of the flusher: a published batch is acknowledged, or, if there is none, what the flusher needs is done (own)
abbrev pub IsTurn : {D : Type 0} → (D → Disk) → Option CommittedView → CoreOnDiskView D → CoreOnDiskView D → List Event → Turned → Type 0
IsTurn disk (Some committed) old new told turned = (turned ≡ Made) × Acknowledges old new told
IsTurn disk None old new told turned = Serves disk (met_by old) old new told turned
