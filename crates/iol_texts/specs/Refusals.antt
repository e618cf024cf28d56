-- The words for refusals.
use Rattle.std.specs.Prelude.{ℕ, List, codes}
use Rattle.iol_types.specs.declared.command.CommandFault.{CommandFault}
use Rattle.iol_types.specs.declared.command.CommandFault.TheVariants as fault
use Rattle.iol_core.specs.Statuses as trace

-- why a command does not pass, and what to do (format, Explained runs)
abbrev pub command_words : CommandFault → List ℕ
command_words fault.UnknownPort = codes "the master has no port of this number: name one that it has"
command_words fault.RevisionSpent = codes "the port has had its last revision: format a new disk"
command_words fault.NotAllowed = codes "the port is not IOL_MANUAL with validation 03: configure it so"
command_words fault.StaleRevision = codes "the port was configured meanwhile: nothing is to be done, the port begins again"
command_words fault.WrongDevice = codes "the port is configured for another device: configure it for this one"
command_words fault.NoPrevious = codes "the port has no previous set: nothing is exchanged"

-- why a command is refused, and what to do (format, Explained runs)
abbrev pub refusal_words : trace.Refusal → List ℕ
refusal_words trace.Stopped = codes "a disk call has failed, and nothing more is taken: replace the disk, and start the master anew"
refusal_words (trace.Command cause) = command_words cause
refusal_words trace.QueueFull = codes "64 commands wait for the disk: ask again once some are acknowledged"
refusal_words trace.Exhausted = codes "no command number is left: format a new disk"
