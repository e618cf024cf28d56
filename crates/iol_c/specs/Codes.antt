-- The codes by which a call returns its answer: `enum iolm_result` of include/iolmaster.h.
use Rattle.std.specs.Prelude.{ℕ}
use Rattle.iol_types.specs.declared.command.CommandFault.{CommandFault}
use Rattle.iol_types.specs.declared.command.CommandFault.TheVariants as command
use Rattle.iol_disk.specs.declared.fault.DiskFault.{DiskFault}
use Rattle.iol_disk.specs.declared.fault.DiskFault.TheVariants as disk
use Rattle.iol_recovery.specs.declared.cause.RecoverCause.{RecoverCause}
use Rattle.iol_recovery.specs.declared.cause.RecoverCause.TheVariants as cause
use Rattle.iol_core.specs.declared.ticket.SubmitFault.{SubmitFault}
use Rattle.iol_core.specs.declared.ticket.SubmitFault.TheVariants as submit
use Rattle.iol_handed.specs.declared.ask.SessionAnswer.{SessionAnswer}
use Rattle.iol_handed.specs.declared.ask.SessionAnswer.TheVariants as answer

-- the code of a change that the state refuses (own)
abbrev pub command_code : CommandFault → ℕ
command_code command.UnknownPort = 32
command_code command.RevisionSpent = 33
command_code command.NotAllowed = 34
command_code command.StaleRevision = 35
command_code command.WrongDevice = 36
command_code command.NoPrevious = 37

-- the code of a change that is refused (own)
abbrev pub submit_code : SubmitFault → ℕ
submit_code submit.Stopped = 4
submit_code (submit.Command fault) = command_code fault
submit_code submit.QueueFull = 38
submit_code submit.Exhausted = 39

-- the code of a disk call that has failed (own)
abbrev pub disk_code : DiskFault → ℕ
disk_code disk.Read = 48
disk_code disk.Write = 49
disk_code disk.Sync = 50

-- the code of a flash that is not opened (own)
abbrev pub cause_code : RecoverCause → ℕ
cause_code (cause.Disk fault) = disk_code fault
cause_code cause.NotFormatted = 51
cause_code cause.TooSmall = 52
cause_code (cause.Damaged sector) = 53
cause_code cause.Memory = 3

-- the code of an answer (own)
abbrev pub code_of : SessionAnswer → ℕ
code_of answer.Done = 0
code_of (answer.Accepted number) = 0
code_of (answer.Status status) = 0
code_of (answer.Numbers durable accepted) = 0
code_of (answer.View view) = 0
code_of (answer.Entry key octets) = 0
code_of answer.Closed = 1
code_of answer.Opening = 2
code_of answer.Memory = 3
code_of answer.Stopped = 4
code_of answer.Absent = 6
code_of answer.Misfit = 7
code_of answer.Nothing = 8
code_of answer.Again = 9
code_of (answer.Found found) = 10
code_of answer.Sync = 11
code_of (answer.Read sector) = 12
code_of (answer.Write sector octets) = 13
code_of answer.Page = 14
code_of (answer.Request octets) = 15
code_of (answer.Refused fault) = submit_code fault
code_of (answer.NotOpened cause) = cause_code cause
