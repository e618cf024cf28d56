-- What holds of an honest disk while a batch is being written.
use Rattle.std.specs.Prelude.{IsTrue}
use Rattle.iol_disk.specs.Disk.{Disk}
use Rattle.iol_journal.specs.Batches.{body_for, sectors_for}
use Rattle.iol_journal.specs.Journals.{WritingView}
use Rattle.iol_journal.specs.Phases.{Holds}

-- a batch is being written: if the disk is honest, what its phase says holds (own)
abbrev pub IsUnderway : {D : Type 0} → (D → Disk) → WritingView D → Type 0
IsUnderway disk w =
    IsTrue (disk w.disk).honest
    → Holds (disk w.disk).sectors w.standing w.idle w.commands (body_for w.standing w.commands) (sectors_for w.standing w.commands)
    w.phase (disk w.disk).content
