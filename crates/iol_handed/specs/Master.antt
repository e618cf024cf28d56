-- A master whose caller makes all calls of its disk and of its devices.
use Rattle.std.specs.Prelude.{◌≡◌, ◌==◌, ℕ, if◌then◌else◌, List, [], length, replicate, Option, None}
use Rattle.iol_disk.specs.Calls.{Call}
use Rattle.iol_flush.specs.Stages.{disk_of}
use Rattle.iol_flush.specs.declared.stage.FlushStage.TheVariants.{Resting}
use Rattle.iol_engine.specs.Ports.{new_machines}
use Rattle.iol_run.specs.EngineOnDisk.{EngineOnDiskView}
use Rattle.iol_handed.specs.Found.{FoundView}
use Rattle.iol_handed.specs.HandedDisk.{HandedDiskView}
use Rattle.iol_handed.specs.Notes.{no_notes}
use Rattle.iol_handed.specs.declared.notes.PortNotes.{PortNotes}
use Rattle.iol_handed.specs.declared.reports.Reports.{Reports}
use Rattle.iol_handed.specs.declared.reports.Reports.TheVariants.{UpTo}

-- a master as contracts see it: its engine and flusher, the reports of its disk, and the notes of its ports, port 1 first (own)
pub record HandedMasterView : Type 0 where
  pub made : EngineOnDiskView HandedDiskView
  pub reports : Reports
  pub notes : List PortNotes

-- the disk of a master (own)
abbrev pub disk_in : HandedMasterView → HandedDiskView
disk_in master = disk_of master.made.master.flusher.stage

-- the call that the disk has handed out after this number of calls, if there is one (own)
abbrev pub call_after : ℕ → HandedDiskView → Option Call
call_after calls disk = if disk.calls == calls then None else disk.call

-- a master has begun with what was found: nothing waits, no call is in hand, and nothing was reported of its ports; each port is new, on
-- its first connection (own)
pub record IsBegun (found : FoundView) (master : HandedMasterView) : Type 0 where
  pub journal : master.made.master.flusher.stage ≡ Resting found.journal
  pub published : master.made.master.flusher.published ≡ []
  pub committed : master.made.master.committed ≡ None
  pub number : master.made.master.core.number ≡ found.journal.standing.number
  pub durable : master.made.master.core.durable ≡ found.journal.standing.state
  pub queue : master.made.master.core.queue ≡ []
  pub running : master.made.master.core.stopped ≡ None
  pub ports : master.made.machines ≡ new_machines (length found.state)
  pub connections : master.made.connections ≡ replicate (length found.state) 0
  pub reports : master.reports ≡ UpTo found.journal.disk.calls
  pub notes : master.notes ≡ replicate (length found.state) no_notes
