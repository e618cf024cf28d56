-- The names and words of a trace.
use Rattle.std.specs.Prelude.{ℕ, zero, suc, ◌/◌, ◌%◌, true, List, [], ◌∷◌, ◌++◌, codes}
use Rattle.std.specs.Fmt.{digit_glyph}
use Rattle.std.specs.List.{flat_map}
use Rattle.iol_types.specs.declared.command.CommandFault.{CommandFault}
use Rattle.iol_types.specs.declared.command.CommandFault.TheVariants as fault
use Rattle.iol_link.specs.declared.validation.IdentFault.{IdentFault}
use Rattle.iol_link.specs.declared.validation.IdentFault.TheVariants as ident
use Rattle.iol_core.specs.Statuses as trace

-- an octet in two hexadecimal digits, upper case (format, Texts)
abbrev pub hex_of : ℕ → List ℕ
hex_of octet = digit_glyph true (octet / 16) ∷ digit_glyph true (octet % 16) ∷ []

-- the last `count` hexadecimal digits of a number, upper case (format, Texts)
unfoldable pub hex_digits : ℕ → ℕ → List ℕ
hex_digits zero number = []
hex_digits (suc count) number = hex_digits count (number / 16) ++ digit_glyph true (number % 16) ∷ []

-- octets in hexadecimal, each after a space (format, Texts)
abbrev pub spaced : List ℕ → List ℕ
spaced octets = flat_map (λ octet. codes " " ++ hex_of octet) octets

-- the name of the reason why a command does not pass (format, Texts)
abbrev pub command_name : CommandFault → List ℕ
command_name fault.UnknownPort = codes "UnknownPort"
command_name fault.RevisionSpent = codes "RevisionSpent"
command_name fault.NotAllowed = codes "NotAllowed"
command_name fault.StaleRevision = codes "StaleRevision"
command_name fault.WrongDevice = codes "WrongDevice"
command_name fault.NoPrevious = codes "NoPrevious"

-- the name of the reason why a command is refused (format, Texts)
abbrev pub refusal_name : trace.Refusal → List ℕ
refusal_name trace.Stopped = codes "Stopped"
refusal_name (trace.Command cause) = command_name cause
refusal_name trace.QueueFull = codes "QueueFull"
refusal_name trace.Exhausted = codes "Exhausted"

-- the name of what does not fit the port (format, Texts)
abbrev pub mismatch_name : IdentFault → List ℕ
mismatch_name ident.Vendor = codes "vendor"
mismatch_name ident.Device = codes "device"
mismatch_name ident.Revision = codes "revision"
mismatch_name ident.NoIsdu = codes "isdu"

-- the name of the reason why a port has failed (format, Texts)
abbrev pub failure_name : trace.Failure → List ℕ
failure_name (trace.Refused error additional) = codes "Refused"
failure_name trace.Unexpected = codes "Unexpected"
failure_name trace.Size = codes "Size"
failure_name trace.List = codes "List"
failure_name trace.Busy = codes "Busy"
failure_name trace.Memory = codes "Memory"
failure_name trace.Empty = codes "Empty"
failure_name trace.Reserved = codes "Reserved"
failure_name trace.WrongService = codes "WrongService"
failure_name trace.Length = codes "Length"
failure_name trace.Check = codes "Check"
failure_name trace.Stopped = codes "Stopped"
failure_name trace.NotAllowed = codes "NotAllowed"
failure_name trace.WrongDevice = codes "WrongDevice"
failure_name trace.Taken = codes "Taken"
failure_name trace.Same = codes "Same"
failure_name trace.Exhausted = codes "Exhausted"
failure_name trace.NoSet = codes "Empty"

-- the words for a failure: its name, and after it the two octets of a refusal (format, Texts)
abbrev pub failure_text : trace.Failure → List ℕ
failure_text (trace.Refused error additional) = codes "Refused " ++ (hex_of error ++ (codes " " ++ hex_of additional))
failure_text failure = failure_name failure

-- the words for the status of a port (format, Texts)
abbrev pub status_text : trace.Status → List ℕ
status_text trace.Off = codes "off"
status_text trace.Lost = codes "lost"
status_text trace.Starting = codes "starting"
status_text trace.Ready = codes "ready"
status_text trace.ReadyLocked = codes "ready locked"
status_text trace.ReadyEmpty = codes "ready empty"
status_text trace.Uploading = codes "uploading"
status_text trace.Storing = codes "storing"
status_text trace.Downloading = codes "downloading"
status_text (trace.Mismatch fault) = codes "mismatch " ++ mismatch_name fault
status_text (trace.Failed failure) = codes "failed " ++ failure_text failure
