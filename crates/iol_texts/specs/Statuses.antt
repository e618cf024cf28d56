-- The words for the status of a port.
use Rattle.std.specs.Prelude.{ℕ, List, [], codes, Option, Some, None}
use Rattle.iol_core.specs.Statuses as trace
use Rattle.iol_texts.specs.Failures.{failure_words, mismatch_words}
use Rattle.iol_texts.specs.Rows.{row_words}
use Rattle.iol_texts.specs.declared.row.Row.{Row}

-- the words for a status that a decision led to: those of its line of the table, if it is known (format, Explained runs)
abbrev pub decided_words : Option Row → List ℕ → List ℕ
decided_words (Some row) other = row_words row
decided_words None other = other

-- the words for a status that is neither a mismatch nor a failure (format, Explained runs)
abbrev pub settled_words : Option Row → trace.Status → List ℕ
settled_words row trace.Off = codes "the port is not IOL_MANUAL: no device is looked after"
settled_words row trace.Lost = codes "no device answers: check the cable, and connect a device"
settled_words row trace.Starting = codes "the port looks at its device"
settled_words row trace.Ready = decided_words row (codes "the transfer is done: device and stored set are the same")
settled_words row trace.ReadyLocked = decided_words row (codes "the device's Data Storage is locked: nothing is done")
settled_words row trace.ReadyEmpty = decided_words row (codes "no set is stored: nothing is done")
settled_words row trace.Uploading = decided_words row (codes "the device's parameters are read and stored")
settled_words row trace.Storing = codes "the device's parameters are read: the set waits for the disk"
settled_words row trace.Downloading = decided_words row (codes "the stored set is written to the device")
settled_words row status = []

-- the words for the status of a port, by the line of the table if it is known (format, Explained runs)
abbrev pub status_words : Option Row → trace.Status → List ℕ
status_words row (trace.Mismatch fault) = mismatch_words fault
status_words row (trace.Failed failure) = failure_words failure
status_words row status = settled_words row status
