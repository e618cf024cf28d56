-- Which disk call a script makes fail.
use Rattle.std.specs.Prelude.{Option, Some, None}
use Rattle.iol_disk.specs.FaultDisk.{first_due}
use Rattle.iol_disk.specs.declared.fault_disk.Due.{Due}
use Rattle.iol_disk.specs.declared.fault_disk.Due.TheVariants.{Never}
use Rattle.iol_script.specs.declared.fail.FailingCall.{FailingCall}

-- when the disk call that a script names fails, if it names one (format, Scripts)
abbrev pub due_at : Option FailingCall → Due
due_at None = Never
due_at (Some call) = first_due call.number
