-- What a flusher keeps from one stage to a later one.
use Rattle.std.specs.Prelude.{◌≡◌, Option, Some, None}
use Rattle.iol_disk.specs.Disk.{Disk, HasFailed}
use Rattle.iol_disk.specs.declared.fault.DiskFault.{DiskFault}
use Rattle.iol_flush.specs.Flushing.{IsSound}
use Rattle.iol_flush.specs.Stages.{disk_of, failure_of}
use Rattle.iol_flush.specs.declared.stage.FlushStage.{FlushStage}

-- between two moments a disk has counted a failure if one is reported, and none otherwise (own)
abbrev pub CountsAs : Option DiskFault → Disk → Disk → Type 0
CountsAs None first last = last.failures ≡ first.failures
CountsAs (Some fault) first last = HasFailed first last

-- a flusher went from one stage to another: if each image that a stop might leave was kept, each is; the disk counts the failure that the
-- flusher reports; and once a disk call has failed, nothing changes (own)
pub record IsSince {D : Type 0} (disk : D → Disk) (old new : FlushStage D) : Type 0 where
  pub sound : IsSound disk old → IsSound disk new
  pub counts : failure_of old ≡ None → CountsAs (failure_of new) (disk (disk_of old)) (disk (disk_of new))
  pub failed : (cause : DiskFault) → failure_of old ≡ Some cause → new ≡ old
