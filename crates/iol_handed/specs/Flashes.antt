-- The flash of a caller, of which nothing is known here.
use Rattle.std.specs.Prelude.{false, []}
use Rattle.iol_disk.specs.Disk.{Disk}
use Rattle.iol_handed.specs.HandedDisk.{HandedDiskView, handed_disk}

-- a disk over a flash of which nothing is known; the calls of iol_handed have the clauses for any flash whose caller reports truly (own)
abbrev pub unknown_disk : HandedDiskView → Disk
unknown_disk disk = handed_disk (λ sector. []) false disk
