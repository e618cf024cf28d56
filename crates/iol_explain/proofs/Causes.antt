-- Why the run of a script that can be run is not printed.
use Rattle.std.proofs.Common.{◌≡◌, List, ℕ}
use Rattle.iol_commands.specs.Fault.{status_of}
use Rattle.iol_commands.specs.Runs.{CanRun, IsCause}
use Rattle.iol_commands.specs.declared.fault.Fault.{Fault}
use Rattle.iol_commands.specs.declared.fault.Fault.TheVariants.{NotFormatted, AlreadyFormatted, TooSmall, Damaged, Disk, Memory}
use Rattle.iol_commands.specs.declared.fault.Fault.TheVariants.{Words, File, InUse, Thread, Call, Fit, Drivers, Script, Geometry}

pub is_cause : (text : List ℕ) (fault : Fault) → CanRun text → status_of fault ≡ 1 → IsCause text fault
is_cause text Memory ran is = ran.0
is_cause text Words ran is = absurd cc
is_cause text Script ran is = absurd cc
is_cause text Geometry ran is = absurd cc
is_cause text NotFormatted ran is = ran
is_cause text AlreadyFormatted ran is = ran
is_cause text TooSmall ran is = ran
is_cause text (Damaged sector) ran is = ran
is_cause text Disk ran is = ran
is_cause text (File path) ran is = ran
is_cause text InUse ran is = ran
is_cause text Thread ran is = ran
is_cause text Call ran is = ran
is_cause text Fit ran is = ran
is_cause text Drivers ran is = ran
