-- The reasons why a run that has ended prints nothing.
use Rattle.std.specs.Prelude.{◌≡◌, Bool, true, false, Option, Some, None, Result, Ok, Err}
use Rattle.iol_commands.specs.declared.fault.Fault.{Fault}
use Rattle.iol_commands.specs.declared.fault.Fault.TheVariants.{Call, Disk as OfDisk, Memory}
use Rattle.iol_live.specs.declared.asking.Missing.{Missing}
use Rattle.iol_master.specs.declared.client.CallFault.{CallFault}
use Rattle.iol_master.specs.declared.client.CallFault.TheVariants as call
use Rattle.iol_master.specs.declared.ending.Ending.{Ending}
use Rattle.iol_master.specs.declared.ending.Ending.TheVariants as ending

-- the fault if some change of a script has no receipt: memory ran out for an accepted one, or otherwise one was refused or is not known
-- to be durable (own)
abbrev pub unreceived : Bool → Bool → Option Fault
unreceived true refused = Some Memory
unreceived false true = Some Call
unreceived false false = None

-- the receipts that clients miss once one more client has ended: it misses none, that of an accepted change for which memory ran out, or
-- one for another reason (own)
abbrev pub missing_with : {A : Type 0} → Missing → Result A CallFault → Missing
missing_with missing (Ok done) = missing
missing_with missing (Err call.Unwritten) = record missing { unwritten = true }
missing_with missing (Err fault) = record missing { refused = true }

-- what is left of a master: the disk of its journal if all is written, `Memory` if memory ran out, or `Disk` if a disk call failed (own)
abbrev pub IsLeftBy : {D F : Type 0} → Ending D F → Result D Fault → Type 0
IsLeftBy (ending.Closed journal published) left = left ≡ Ok journal.disk
IsLeftBy (ending.Unwritten journal published) left = left ≡ Err Memory
IsLeftBy (ending.Faulted disk fault) left = left ≡ Err OfDisk
