-- The exit status and the words of a fault, and the fault of a script and of a recovery.
use Rattle.std.specs.Prelude.{ℕ, List, ◌++◌, codes}
use Rattle.std.specs.Fmt.{decimal}
use Rattle.iol_commands.specs.declared.fault.Fault.{Fault}
use Rattle.iol_commands.specs.declared.fault.Fault.TheVariants.{NotFormatted, AlreadyFormatted, TooSmall, Damaged, Disk, Memory}
use Rattle.iol_commands.specs.declared.fault.Fault.TheVariants.{Words, File, InUse, Thread, Call, Fit, Drivers, Script, Geometry}
use Rattle.iol_journal.specs.declared.formatting.FormatFault.{FormatFault}
use Rattle.iol_journal.specs.declared.formatting.FormatFault.TheVariants as format
use Rattle.iol_journal.specs.RecoverCause.{RecoverCause}
use Rattle.iol_journal.specs.RecoverCause.TheVariants as cause
use Rattle.iol_script.specs.declared.script.ScriptFault.{ScriptFault}
use Rattle.iol_script.specs.declared.script.ScriptFault.TheVariants as script

-- the exit status of a fault: 2 if what the user wrote is not valid, and 1 if a valid command fails (format, Texts)
abbrev pub status_of : Fault → ℕ
status_of Words = 2
status_of Script = 2
status_of Geometry = 2
status_of _ = 1

-- the words for a fault (format, Texts)
abbrev pub fault_text : Fault → List ℕ
fault_text NotFormatted = codes "the disk is not formatted"
fault_text AlreadyFormatted = codes "the disk is already formatted"
fault_text TooSmall = codes "the disk is too small"
fault_text (Damaged sector) = codes "damaged at sector " ++ decimal sector
fault_text Disk = codes "the disk failed"
fault_text Memory = codes "out of memory"
fault_text Words = codes "a word is not UTF-8"
fault_text (File path) = codes "cannot open " ++ path.now
fault_text InUse = codes "the image is in use"
fault_text Thread = codes "a thread could not start"
fault_text Call = codes "a call failed"
fault_text Fit = codes "the script does not fit the image"
fault_text Drivers = codes "the drivers do not fit the image"
fault_text Script = codes "the script is not valid"
fault_text Geometry = codes "the geometry is not valid"

-- the line that says why a command failed (format, Texts)
abbrev pub fault_line : Fault → List ℕ
fault_line fault = codes "error: " ++ (fault_text fault ++ codes "\n")

-- why a command fails if its script cannot be read (format, Texts)
abbrev pub fault_for : ScriptFault → Fault
fault_for script.NotValid = Script
fault_for script.Memory = Memory

-- why a command fails if its disk cannot be formatted (format, Texts)
abbrev pub unformatted : FormatFault → Fault
unformatted format.TooSmall = TooSmall
unformatted format.AlreadyFormatted = AlreadyFormatted
unformatted format.Memory = Memory
unformatted (format.Disk fault) = Disk

-- why a command fails if its disk cannot be recovered (format, Texts)
abbrev pub unrecovered : RecoverCause → Fault
unrecovered (cause.Disk fault) = Disk
unrecovered cause.NotFormatted = NotFormatted
unrecovered cause.TooSmall = TooSmall
unrecovered (cause.Damaged sector) = Damaged sector
unrecovered cause.Memory = Memory
