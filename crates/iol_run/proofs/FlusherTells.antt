-- A turn of the flusher has no events of a port.
use Rattle.std.proofs.Common.{◌≡◌, ℕ, List, [], ◌∷◌, Option, Some, None, ap, ◌∙◌}
use Rattle.iol_disk.specs.Disk.{Disk}
use Rattle.iol_flush.specs.declared.need.Need.{Need}
use Rattle.iol_flush.specs.declared.need.Need.TheVariants as need
use Rattle.iol_front.specs.Fronts.{CommittedView}
use Rattle.iol_core.specs.Events.{Event, Acknowledged, DiskFailed}
use Rattle.iol_run.specs.CoreOnDisk.{CoreOnDiskView}
use Rattle.iol_run.specs.Turns.{Takes, HasCalled, Serves, IsTurn, met_by}
use Rattle.iol_run.specs.declared.turn.Turned.{Turned}
use Rattle.iol_run.specs.declared.turn.Turned.TheVariants.{Made, Idle, Waited}

module _ {A : Type 0} (say : List Event → List A) where
  -- a function of events that gives nothing for acknowledgements and failures
  pub record PassesOver : Type 0 where
    pub none : say [] ≡ []
    pub acknowledged : (n : ℕ) → say (Acknowledged n ∷ []) ≡ []
    pub failed : say (DiskFailed ∷ []) ≡ []

  module _ (over : PassesOver) {D : Type 0} (disk : D → Disk) where
    takes_says : (old new : CoreOnDiskView D) (told : List Event) (turned : Turned) → Takes old new told turned → say told ≡ []
    takes_says old new told Made is = ap say is.5 ∙ over.none
    takes_says old new told Idle is = ap say is.2 ∙ over.none
    takes_says old new told Waited is = ap say is.2 ∙ over.none

    called_says : (old new : CoreOnDiskView D) (told : List Event) → HasCalled disk old new told → say told ≡ []
    called_says old new [] is = over.none
    called_says old new (e ∷ told) is = ap say is.1 ∙ over.failed

    serves_says : (needs : Need) (old new : CoreOnDiskView D) (told : List Event) (turned : Turned) → Serves disk needs old new told turned
        → say told ≡ []
    serves_says need.Batch old new told turned is = takes_says old new told turned is
    serves_says need.Disk old new told Made is = called_says old new told is.2
    serves_says need.Disk old new told Idle is = absurd is
    serves_says need.BatchOrDisk old new told turned is = absurd is
    serves_says need.Disk old new told Waited is = ap say is.2 ∙ over.none
    serves_says need.Publish old new told turned is = ap say is.1.4 ∙ over.none
    serves_says need.Stopped old new told turned is = ap say is.2 ∙ over.none

    pub turn_says : (committed : Option CommittedView) (old new : CoreOnDiskView D) (told : List Event) (turned : Turned)
        → IsTurn disk committed old new told turned → say told ≡ []
    turn_says (Some committed) old new told turned is = ap say is.1.3 ∙ over.acknowledged _
    turn_says None old new told turned is = serves_says (met_by old) old new told turned is
