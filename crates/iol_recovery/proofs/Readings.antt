-- A disk that calls left unchanged, and a fault after them.
use Rattle.std.proofs.Common.{◌≡◌, Result, Err, ◌∙◌}
use Rattle.iol_disk.specs.Disk.{Disk}
use Rattle.iol_recovery.specs.Faults.{Counted, IsFault}
use Rattle.iol_layout.specs.Meaning.{Cause}
use Rattle.iol_recovery.specs.Reading.{SaysWhy}
use Rattle.iol_recovery.specs.declared.cause.RecoverCause.{RecoverCause}
use Rattle.iol_recovery.specs.declared.cause.RecoverCause.TheVariants as cause
use Rattle.iol_disk.proofs.Unchanged.{failed_after}

pub counted_after : (T : Type 0) (told : RecoverCause) (old mid new : Disk) → mid.failures ≡ old.failures
    → Counted {T = T} mid new (Err told) → Counted {T = T} old new (Err told)
counted_after T (cause.Disk fault) old mid new quiet counted = (counted.0, failed_after old mid new quiet counted.1)
counted_after T cause.NotFormatted old mid new quiet counted = counted ∙ quiet
counted_after T cause.TooSmall old mid new quiet counted = counted ∙ quiet
counted_after T (cause.Damaged sector) old mid new quiet counted = counted ∙ quiet
counted_after T cause.Memory old mid new quiet counted = counted ∙ quiet

-- a fault of the disk or of memory says nothing about what is read
pub fault-says_nothing : {Y : Type 0} (read : Result Y Cause) (told : RecoverCause) → IsFault told → SaysWhy read told
fault-says_nothing read (cause.Disk fault) is = tt
fault-says_nothing read cause.NotFormatted is = absurd is
fault-says_nothing read cause.TooSmall is = absurd is
fault-says_nothing read (cause.Damaged sector) is = absurd is
fault-says_nothing read cause.Memory is = tt
