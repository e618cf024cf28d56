-- Transfers in memory, as a contract sees them.
use Rattle.std.specs.Prelude.{◌≡◌, ◌<◌, ◌≤◌, ◌⊎◌, drop, length, Result, Ok, Err}
use Rattle.iol_types.specs.DataSet.{SetValue}
use Rattle.iol_link.specs.declared.messages.Answer.{Answer}
use Rattle.iol_transfer.specs.Asked.{Asks, Start, Size, IndexList, NeedsMemory}
use Rattle.iol_transfer.specs.Machine.{Machine, Outcome, More, Whole, Fault, reading, goes_on}
use Rattle.iol_transfer.specs.declared.fault.TransferFault.{TransferFault}
use Rattle.iol_transfer.specs.declared.fault.TransferFault.TheVariants as fault
use Rattle.iol_transfer.specs.declared.upload.TheConstants.{MOST_LISTS}
use Rattle.iol_transfer.specs.declared.upload.Upload.TheInside.{Inside}
use Rattle.iol_transfer.specs.declared.upload.UploadStep.{UploadStep}
use Rattle.iol_transfer.specs.declared.upload.UploadStep.TheVariants as step
use Rattle.iol_transfer.specs.declared.stage.UploadStage.{UploadStage}
use Rattle.iol_transfer.specs.declared.stage.UploadStage.TheVariants.{Starting, Sizing, Listing, Reading}

-- what an upload in memory asks for next (own)
abbrev pub asks_of : UploadStage → Asks
asks_of Starting = Start
asks_of Sizing = Size
asks_of (Listing index subindex lists keys) = IndexList index subindex lists keys.items
asks_of (Reading keys place entries) = reading entries (drop place keys.items)

-- an upload in memory, as a `Machine` (own)
abbrev pub machine_of : Inside → Machine
machine_of upload = record { vendor = upload.vendor; device = upload.device; asks = asks_of upload.stage; busy = upload.repeats }

-- the numbers of a stage are in their ranges (own)
abbrev pub IsStage : UploadStage → Type 0
IsStage Starting = Unit {0}
IsStage Sizing = Unit {0}
IsStage (Listing index subindex lists keys) = lists < MOST_LISTS
IsStage (Reading keys place entries) = place ≤ length keys.items

-- the stage after these octets, or the fault, is the outcome for a machine; a memory fault occurs only if the octets are
-- kept (own)
abbrev pub IsStageAfter : Machine → Answer → Result UploadStage TransferFault → Outcome → Type 0
IsStageAfter machine answer (Ok stage) outcome = outcome ≡ goes_on machine (asks_of stage)
IsStageAfter machine answer (Err why) outcome = (outcome ≡ Fault why) ⊎ ((why ≡ fault.Memory) × NeedsMemory machine.asks answer)

-- the result of `feed`, and the upload after it, are the outcome of an answer; a memory fault occurs only if it is kept
-- (own)
abbrev pub IsOutcome : Machine → Answer → UploadStep → Machine → Outcome → Type 0
IsOutcome old answer step.More new outcome = outcome ≡ More new
IsOutcome old answer (step.Whole set) new outcome = outcome ≡ Whole set
IsOutcome old answer (step.Fault why) new outcome = (outcome ≡ Fault why) ⊎ ((why ≡ fault.Memory) × NeedsMemory old.asks answer)

-- this holds if an upload continues (own)
abbrev pub IfMore : UploadStep → Type 0 → Type 0
IfMore step.More holds = holds
IfMore (step.Whole set) holds = Unit {0}
IfMore (step.Fault why) holds = Unit {0}

-- this holds of the set, if one was read whole (own)
abbrev pub IfWhole : UploadStep → (SetValue → Type 0) → Type 0
IfWhole (step.Whole set) holds = holds set
IfWhole step.More holds = Unit {0}
IfWhole (step.Fault why) holds = Unit {0}

-- this holds of the fault, if an upload ends with one (own)
abbrev pub IfFault : UploadStep → (TransferFault → Type 0) → Type 0
IfFault (step.Fault why) holds = holds why
IfFault step.More holds = Unit {0}
IfFault (step.Whole set) holds = Unit {0}

-- this set was read whole, or memory ran out (own)
abbrev pub IsWholeOrMemory : UploadStep → SetValue → Type 0
IsWholeOrMemory (step.Whole whole) set = whole ≡ set
IsWholeOrMemory (step.Fault why) set = why ≡ fault.Memory
IsWholeOrMemory step.More set = ⊥

-- an upload continues with the next stage, or ends with the fault (own)
abbrev pub GoesOn : Machine → Result UploadStage TransferFault → UploadStep → Machine → Type 0
GoesOn old (Ok stage) step.More new =
    new ≡ record { vendor = old.vendor; device = old.device; asks = asks_of stage; busy = 0 }
GoesOn old (Err why) (step.Fault other) new = other ≡ why
GoesOn old _ _ new = ⊥
