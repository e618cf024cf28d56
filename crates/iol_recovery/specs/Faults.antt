-- What a fault during reading says about the disk.
use Rattle.std.specs.Prelude.{◌≡◌, Result, Ok, Err}
use Rattle.iol_disk.specs.Disk.{Disk, HasFailed}
use Rattle.iol_disk.specs.declared.fault.DiskFault.TheVariants.{Read}
use Rattle.iol_recovery.specs.declared.cause.RecoverCause.{RecoverCause}
use Rattle.iol_recovery.specs.declared.cause.RecoverCause.TheVariants as cause

-- a fault that says nothing about what the disk holds: the disk failed, or out of memory (own)
abbrev pub IsFault : RecoverCause → Type 0
IsFault (cause.Disk fault) = Unit {0}
IsFault cause.Memory = Unit {0}
IsFault other = ⊥

-- a fault of the disk (own)
abbrev pub IsDiskFault : RecoverCause → Type 0
IsDiskFault (cause.Disk fault) = Unit {0}
IsDiskFault other = ⊥

-- a fault of the disk is that of a read, and was counted; with any other answer no failure was counted (own)
abbrev pub Counted : {T : Type 0} → Disk → Disk → Result T RecoverCause → Type 0
Counted old new (Ok x) = new.failures ≡ old.failures
Counted old new (Err (cause.Disk fault)) = (fault ≡ Read) × HasFailed old new
Counted old new (Err other) = new.failures ≡ old.failures
