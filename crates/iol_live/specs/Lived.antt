-- The text that is printed of a running master, and the reasons why none is.
use Rattle.std.specs.Prelude.{◌≡◌, ◌⊎◌, Some, None, ℕ, ◌+◌, nat_le, Bool, false, List, ◌++◌, length, codes, Ok}
use Rattle.std.specs.Fmt.{decimal}
use Rattle.std.specs.List.{list_all}
use Rattle.iol_types.specs.Command.{CommandValue}
use Rattle.iol_types.specs.State.{State, after}
use Rattle.iol_disk.specs.Disk.{Disk, Shows}
use Rattle.iol_journal.specs.Meaning.{Standing, standing_in}
use Rattle.iol_commands.specs.Fault.{status_of}
use Rattle.iol_texts.specs.Recovered.{recovered_text}
use Rattle.iol_commands.specs.declared.fault.Fault.{Fault}
use Rattle.iol_commands.specs.declared.fault.Fault.TheVariants.{Fit, Thread, Call, Disk as OfDisk, Memory, Script}
use Rattle.iol_master.specs.declared.ending.StartFault.{StartFault}
use Rattle.iol_master.specs.declared.ending.StartFault.TheVariants as start
use Rattle.iol_script.specs.LiveScript.{SaidLive, live_in}
use Rattle.iol_script.specs.Script.{IsText}
use Rattle.iol_script.specs.declared.device.Device.{Device}

-- the printed text: the number of receipts, and the lines of the recovered state (format, Texts)
abbrev pub lived_text : ℕ → List ℕ → List ℕ
lived_text receipts state = codes "receipts " ++ (decimal receipts ++ (codes "\n" ++ state))

-- a text has this number of receipts, and the number and state after what was there and some further commands (format, Texts)
abbrev pub IsAfterWhatIsThere : ℕ → Standing → List ℕ → Type 0
IsAfterWhatIsThere receipts there text =
    (commands : List CommandValue)
    × (text ≡ lived_text receipts (recovered_text (there.number + length commands) (after there.state commands)))

-- each device of a script is at one of `ports` ports (format, Scripts)
abbrev pub fits : ℕ → List Device → Bool
fits ports devices = list_all (λ (device : Device). nat_le device.port ports) devices

-- if an honest disk holds a journal, the answer is whether each device of a script is at one of its ports (format, Scripts)
abbrev pub Fits : Disk → List Device → Bool → Type 0
Fits disk devices answer =
    Shows disk (λ image. (there : Standing) → standing_in disk.sectors image ≡ Ok there → fits (length there.state) devices ≡ answer)

-- why a run that has begun prints nothing: a thread could not be made, a client has no receipt, a disk call failed, or memory ran out
-- (format, Texts)
abbrev pub IsRunCause : Fault → Type 0
IsRunCause Thread = Unit {0}
IsRunCause Call = Unit {0}
IsRunCause OfDisk = Unit {0}
IsRunCause Memory = Unit {0}
IsRunCause fault = ⊥

-- a master did not start, although it got a link for each port (own)
abbrev pub HasLinks : {D : Type 0} → StartFault D → Type 0
HasLinks (start.Ports disk) = ⊥
HasLinks (start.Memory disk) = Unit {0}
HasLinks (start.Thread disk) = Unit {0}

-- the fault that is reported if a master with a link for each port does not start (format, Texts)
abbrev pub IsStartCause : {D : Type 0} → StartFault D → Fault → Type 0
IsStartCause (start.Memory disk) Memory = Unit {0}
IsStartCause (start.Thread disk) Thread = Unit {0}
IsStartCause start_fault fault = ⊥

-- why nothing is printed of a disk that holds a journal: a device is at a port that does not exist, or the run prints nothing
-- (format, Texts)
abbrev pub IsLiveCause : Disk → List Device → Fault → Type 0
IsLiveCause disk devices fault = ((fault ≡ Fit) × Fits disk devices false) ⊎ IsRunCause fault

-- a text has this number of receipts, and the recovered text of some number and state (format, Texts)
abbrev pub TellsReceipts : ℕ → List ℕ → Type 0
TellsReceipts receipts text = (number : ℕ) × (state : State) × (text ≡ lived_text receipts (recovered_text number state))

-- a text has one receipt for each step of a valid script, and the recovered text of some number and state (format, Texts)
pub record TellsRun (script text : List ℕ) : Type 0 where
  pub said : SaidLive
  pub valid : IsText script
  pub script_is : live_in script ≡ Some said
  pub told : TellsReceipts (length said.changes) text

-- why nothing is printed: the script is not valid, or another fault has the status 1 (format, Texts)
abbrev pub IsScriptCause : List ℕ → Fault → Type 0
IsScriptCause script fault = ((fault ≡ Script) × (IsText script → live_in script ≡ None)) ⊎ (status_of fault ≡ 1)

-- a status that is not 0 has a reason: a fault with this status, and nothing is written to the output; or the status is 1, and a run's text
-- was to be printed, as when writing fails (format, Texts)
abbrev pub IsSilent : {O : Type 0} → List ℕ → ℕ → O → O → Type 0
IsSilent script status out written =
    ((fault : Fault) × IsScriptCause script fault × (status ≡ status_of fault) × (written ≡ out))
    ⊎ ((status ≡ 1) × ((printed : List ℕ) × TellsRun script printed))
