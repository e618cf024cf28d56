-- The calls that a master wants of its disk, and the reports of them.
use Rattle.std.specs.Prelude.{◌≡◌, ◌==◌, ℕ, Bool, true, false, if◌then◌else◌, List, ◌∷◌, Option, Some, None}
use Rattle.iol_disk.specs.Calls.{Call}
use Rattle.iol_disk.specs.Disk.{Disk}
use Rattle.iol_run.specs.Turns.{IsTurn, failed_core}
use Rattle.iol_run.specs.declared.turn.Turned.{Turned}
use Rattle.iol_run.specs.declared.turn.Turned.TheVariants.{Made, Idle, Waited}
use Rattle.iol_core.specs.Events.{Event, DiskFailed}
use Rattle.iol_handed.specs.HandedDisk.{HandedDiskView, call_of}
use Rattle.iol_handed.specs.Master.{HandedMasterView, call_after, disk_in}
use Rattle.iol_handed.specs.declared.reports.DiskAnswer.{DiskAnswer}
use Rattle.iol_handed.specs.declared.reports.DiskAnswer.TheVariants as answer
use Rattle.iol_handed.specs.declared.reports.Reports.{Reports}
use Rattle.iol_handed.specs.declared.reports.Reports.TheVariants.{UpTo, Failed}

-- the answer is this call (own)
abbrev pub IsCall : Call → DiskAnswer → Type 0
IsCall call (answer.Call handed) = call_of handed ≡ call
IsCall call _ = ⊥

-- the answer to a turn that handed out no call: something was done, nothing was to be done, or memory ran out (own)
abbrev pub without_call : Turned → DiskAnswer
without_call Made = answer.Again
without_call Idle = answer.Nothing
without_call Waited = answer.Memory

-- a turn is answered with the call that it has handed out, if there is one (own)
abbrev pub IsAnswerTo : Option Call → Turned → DiskAnswer → Type 0
IsAnswerTo (Some call) turned told = IsCall call told
IsAnswerTo None turned told = told ≡ without_call turned

-- a turn reports that a disk call has failed (own)
abbrev pub tells_failure : List Event → Bool
tells_failure (DiskFailed ∷ told) = true
tells_failure told = false

-- after a turn in which a disk call has failed, nothing more is wanted of the disk (own)
abbrev pub IsAnswerTold : Bool → Turned → ℕ → HandedMasterView → DiskAnswer → Type 0
IsAnswerTold true turned calls new answered = (answered ≡ answer.Stopped) × (new.reports ≡ Failed)
IsAnswerTold false turned calls new answered = IsAnswerTo (call_after calls (disk_in new)) turned answered × (new.reports ≡ UpTo calls)

-- the flusher makes a turn, with this answer; the ports and their notes stay the same (own)
pub record AnswersTurn (disk : HandedDiskView → Disk) (calls : ℕ) (old new : HandedMasterView) (answered : DiskAnswer) : Type 0 where
  pub told : List Event
  pub turned : Turned
  pub turn : IsTurn disk old.made.master.committed old.made.master new.made.master told turned
  pub machines : new.made.machines ≡ old.made.machines
  pub connections : new.made.connections ≡ old.made.connections
  pub notes : new.notes ≡ old.notes
  pub answer : IsAnswerTold (tells_failure told) turned calls new answered

-- the call in hand is the answer again; if none is in hand, the flusher makes a turn (own)
abbrev pub AsksFor : Option Call → (HandedDiskView → Disk) → ℕ → HandedMasterView → HandedMasterView → DiskAnswer → Type 0
AsksFor (Some call) disk calls old new answered = IsCall call answered × (new ≡ old)
AsksFor None disk calls old new answered = AnswersTurn disk calls old new answered

-- the answer is what is wanted of the disk: nothing once a call has failed (own)
abbrev pub AsksDiskAt : Reports → (HandedDiskView → Disk) → HandedMasterView → HandedMasterView → DiskAnswer → Type 0
AsksDiskAt Failed disk old new answered = (answered ≡ answer.Stopped) × (new ≡ old)
AsksDiskAt (UpTo calls) disk old new answered = AsksFor (call_after calls (disk_in old)) disk calls old new answered

abbrev pub AsksDisk : (HandedDiskView → Disk) → HandedMasterView → HandedMasterView → DiskAnswer → Type 0
AsksDisk disk old new answered = AsksDiskAt old.reports disk old new answered

-- the master once the call in hand is reported: it was made, or it has failed, and the core then knows that (own)
abbrev pub reported : Bool → HandedMasterView → HandedMasterView
reported true master = record master { reports = UpTo (disk_in master).calls }
reported false master = record master {
  made = record master.made { master = record master.made.master { core = failed_core master.made.master.core } };
  reports = Failed;
}

-- a call is in hand (own)
abbrev pub has_call_at : Reports → HandedDiskView → Bool
has_call_at Failed disk = false
has_call_at (UpTo calls) disk = if disk.calls == calls then false else true

abbrev pub has_call : HandedMasterView → Bool
has_call master = has_call_at master.reports (disk_in master)

-- the call in hand is reported, if there is one (own)
pub record HasReported (made : Bool) (old new : HandedMasterView) (answered : Bool) : Type 0 where
  pub answer : answered ≡ has_call old
  pub new_is : new ≡ (if has_call old then reported made old else old)
