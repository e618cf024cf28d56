-- The results of a recovery.
use Rattle.std.specs.Prelude.{Result, Ok, Err}
use Rattle.iol_types.specs.State.{State}
use Rattle.iol_journal.specs.Journals.{JournalView}
use Rattle.iol_recovery.specs.declared.cause.RecoverCause.{RecoverCause}
use Rattle.iol_journal.specs.declared.recovery.RecoverFault.{RecoverFault}

-- the disk in the result of a recovery: in the journal, or returned with the fault (own)
abbrev pub recovered_disk : {D : Type 0} → Result (JournalView D × State) (RecoverFault D) → D
recovered_disk (Ok found) = found.0.disk
recovered_disk (Err fault) = fault.disk

-- the result of a recovery without the disk (own)
abbrev pub cause_of : {D : Type 0} → Result (JournalView D × State) (RecoverFault D) → Result State RecoverCause
cause_of (Ok found) = Ok found.1
cause_of (Err fault) = Err fault.cause
