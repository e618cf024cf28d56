-- Commands on image files.
use Rattle.std.specs.Prelude.{◌≡◌, ◌⊎◌, ℕ, List, ◌++◌, codes, Result, Err}
use Rattle.std.specs.Fmt.{decimal}
use Rattle.iol_journal.specs.Geometry.{Geometry as Shape, IsGeometry}
use Rattle.iol_journal.specs.Layout.{layout_of, total}
use Rattle.iol_journal.specs.Meaning.{Cause, unformatted, too_small, damaged}
use Rattle.iol_commands.specs.Fault.{status_of}
use Rattle.iol_commands.specs.declared.fault.Fault.{Fault}
use Rattle.iol_commands.specs.declared.fault.Fault.TheVariants.{Geometry, File, InUse, NotFormatted, TooSmall, Damaged, Disk, Memory}
use Rattle.iol_disk.specs.declared.image_fault.ImageFault.{ImageFault}
use Rattle.iol_disk.specs.declared.image_fault.ImageFault.TheVariants as image

-- the text of a format: the number of sectors of its geometry, in decimal (format, Texts)
abbrev pub formatted_text : Shape → List ℕ
formatted_text g = codes "formatted " ++ (decimal (total (layout_of g)) ++ codes " sectors\n")

-- why a file was not formatted for these ports and slots: they are no geometry, or they are one and the format failed
-- (format, Texts)
abbrev pub IsFormatCause : Shape → Fault → Type 0
IsFormatCause g fault = ((fault ≡ Geometry) × (IsGeometry g → ⊥)) ⊎ ((status_of fault ≡ 1) × IsGeometry g)

-- why a command fails if its image file is not opened or made (format, Texts)
abbrev pub IsFileCause : ImageFault → Fault → Type 0
IsFileCause image.Open (File path) = Unit {0}
IsFileCause image.InUse InUse = Unit {0}
IsFileCause (image.Disk fault) Disk = Unit {0}
IsFileCause image.Memory Memory = Unit {0}
IsFileCause image_fault fault = ⊥

-- why a state is not shown: the cause that reading meets first; a fault of the disk or of memory says nothing about what
-- is read (format, Texts)
abbrev pub TellsWhy : {Y : Type 0} → Result Y Cause → Fault → Type 0
TellsWhy read NotFormatted = read ≡ Err unformatted
TellsWhy read TooSmall = read ≡ Err too_small
TellsWhy read (Damaged sector) = read ≡ Err (damaged sector)
TellsWhy read Disk = Unit {0}
TellsWhy read Memory = Unit {0}
TellsWhy read fault = ⊥
