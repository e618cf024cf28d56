-- A disk in memory as contracts see it.
use Rattle.std.specs.Prelude.{true, length}
use Rattle.iol_disk.specs.Disk.{Disk}
use Rattle.iol_disk.specs.Undo.{content_of, undos}
use Rattle.iol_disk.specs.declared.memory.MemoryDisk.{MemoryDisk}

-- a disk in memory as contracts see it: honest, with one sector for each cell (own)
abbrev pub memory_disk : MemoryDisk → Disk
memory_disk d = record {
  sectors = length d.cells;
  honest = true;
  failures = d.failures;
  content = content_of d.cells (undos d.past.items);
}
