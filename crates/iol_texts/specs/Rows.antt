-- The lines of the table by which a port decides.
use Rattle.std.specs.Prelude.{ℕ, ◌&&◌, not, Bool, if◌then◌else◌, List, codes, Option, is_none}
use Rattle.iol_types.specs.Config.{restores, backs_up}
use Rattle.iol_types.specs.declared.config.Validation.{Validation}
use Rattle.iol_transfer.specs.declared.property.State.{State}
use Rattle.iol_port.specs.Decision.{is_locked, has_checksum}
use Rattle.iol_port.specs.declared.decision.Decision.{Decision}
use Rattle.iol_port.specs.declared.decision.Decision.TheVariants as decision
use Rattle.iol_texts.specs.declared.row.Row.{Row}
use Rattle.iol_texts.specs.declared.row.Row.TheVariants.{NotKept, Locked, NothingStored, FlagSet, SameSet, OtherSet}
use Rattle.iol_texts.specs.declared.row.Row.TheVariants.{NothingToRestore, SameRestored, OtherRestored}

-- the line that applies if the flag does not matter, by whether the device has the stored set (own)
abbrev pub same_or_other : Bool → Bool → Row
same_or_other backs_up_ is_same =
    if backs_up_ then (if is_same then SameSet else OtherSet) else if is_same then SameRestored else OtherRestored

-- the first line that applies (format, What is done with a device's parameters)
abbrev pub row_of : Validation → State → Bool → ℕ → Option ℕ → Row
row_of validation state flag checksum stored =
    if not (restores validation) then NotKept
    else if is_locked state then Locked
    else if backs_up validation && is_none stored then NothingStored
    else if is_none stored then NothingToRestore
    else if backs_up validation && flag then FlagSet
    else same_or_other (backs_up validation) (has_checksum stored checksum)

-- the decision of a line (format, What is done with a device's parameters)
abbrev pub decision_of : Row → Decision
decision_of NotKept = decision.Ready
decision_of Locked = decision.ReadyLocked
decision_of NothingStored = decision.Upload
decision_of FlagSet = decision.Upload
decision_of SameSet = decision.Ready
decision_of OtherSet = decision.Download
decision_of NothingToRestore = decision.ReadyEmpty
decision_of SameRestored = decision.Ready
decision_of OtherRestored = decision.Download

-- the words for a line (format, Explained runs)
abbrev pub row_words : Row → List ℕ
row_words NotKept = codes "validation 00 to 02: nothing is done"
row_words Locked = codes "validation 03 or 04, the device's Data Storage is locked: nothing is done"
row_words NothingStored = codes "validation 03, no set is stored: the device's parameters are read and stored"
row_words FlagSet = codes "validation 03, a set is stored, DS_UPLOAD_FLAG is set: the device's parameters are read and stored"
row_words SameSet = codes "validation 03, DS_UPLOAD_FLAG is clear, Parameter_Checksum is that of the set: nothing is done"
row_words OtherSet = codes "validation 03, DS_UPLOAD_FLAG is clear, Parameter_Checksum is another: the set is written to the device"
row_words NothingToRestore = codes "validation 04, no set is stored: nothing is done"
row_words SameRestored = codes "validation 04, Parameter_Checksum is that of the set: nothing is done"
row_words OtherRestored = codes "validation 04, Parameter_Checksum is another: the set is written to the device"
