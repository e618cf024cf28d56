-- Failures of the disk that are reported.
use Rattle.std.specs.Prelude.{◌≡◌, List}
use Rattle.iol_disk.specs.Disk.{Disk, HasFailed}
use Rattle.iol_core.specs.Events.{Stamp}
use Rattle.iol_core.specs.Words.{HasFailure}

-- a failure of the disk is reported exactly if the disk has counted one, unless its counter was at its greatest number (own)
pub record TellsFailures (old new : Disk) (events : List Stamp) : Type 0 where
  pub told : HasFailure events → HasFailed old new
  pub untold : (HasFailure events → ⊥) → new.failures ≡ old.failures
