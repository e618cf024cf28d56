-- The answers of a master as those of a session.
use Rattle.std.specs.Prelude.{◌≡◌, ℕ, Option, None, Some, Result, Ok, Err, length, slice_get}
use Rattle.std.specs.Option.{option_map}
use Rattle.iol_types.specs.DataSet.{Entry, octets_of}
use Rattle.iol_types.specs.State.{Port, Stored}
use Rattle.iol_core.specs.declared.ticket.SubmitFault.{SubmitFault}
use Rattle.iol_port.specs.declared.status.PortStatus.{PortStatus}
use Rattle.iol_handed.specs.declared.handed_call.HandedCall.TheVariants as call
use Rattle.iol_handed.specs.declared.port_answer.PortAnswer.{PortAnswer}
use Rattle.iol_handed.specs.declared.port_answer.PortAnswer.TheVariants as port
use Rattle.iol_handed.specs.declared.reports.DiskAnswer.{DiskAnswer}
use Rattle.iol_handed.specs.declared.reports.DiskAnswer.TheVariants as disk
use Rattle.iol_handed.specs.declared.ask.SessionAnswer.{SessionAnswer}
use Rattle.iol_handed.specs.declared.ask.SessionAnswer.TheVariants as answer
use Rattle.iol_handed.specs.declared.ask.SetView.{SetView}
use Rattle.iol_handed.specs.declared.ask.View.{View}
use Rattle.iol_handed.specs.declared.ask.WhichSet.{WhichSet}
use Rattle.iol_handed.specs.declared.ask.WhichSet.TheVariants as which

-- the session's answer for what is wanted of the disk (own)
abbrev pub disk_answer : DiskAnswer → SessionAnswer
disk_answer disk.Stopped = answer.Stopped
disk_answer (disk.Call (call.Write sector octets)) = answer.Write sector octets
disk_answer (disk.Call call.Sync) = answer.Sync
disk_answer disk.Again = answer.Again
disk_answer disk.Nothing = answer.Nothing
disk_answer disk.Memory = answer.Memory

-- the session's answer for the answer of a port (own)
abbrev pub port_answer : PortAnswer → SessionAnswer
port_answer port.Absent = answer.Absent
port_answer port.Misfit = answer.Misfit
port_answer port.Memory = answer.Memory
port_answer port.Noted = answer.Done
port_answer port.Nothing = answer.Nothing
port_answer port.Again = answer.Again
port_answer port.Page = answer.Page
port_answer (port.Request octets) = answer.Request octets

-- the answer to a change: it is accepted under a number, or refused (own)
abbrev pub submit_answer : Result ℕ SubmitFault → SessionAnswer
submit_answer (Ok number) = answer.Accepted number
submit_answer (Err fault) = answer.Refused fault

-- the answer with the status of a port, if the master has the port (own)
abbrev pub status_answer : Option PortStatus → SessionAnswer
status_answer None = answer.Absent
status_answer (Some status) = answer.Status status

-- the size of a set, and its checksum (own)
abbrev pub set_view : Stored → SetView
set_view stored = record {
  entries = length stored.set.entries;
  octets = octets_of stored.set.entries;
  checksum = stored.set.checksum;
}

-- the durable state of a port, and the answer with it (own)
abbrev pub view_of : Port → View
view_of port = record {
  config = port.config;
  revision = port.revision;
  present = option_map set_view port.stored;
  previous = option_map set_view port.previous;
}

abbrev pub view_answer : Option Port → SessionAnswer
view_answer None = answer.Absent
view_answer (Some port) = answer.View (view_of port)

-- one of the sets of a port (own)
abbrev pub set_in : WhichSet → Port → Option Stored
set_in which.Present port = port.stored
set_in which.Previous port = port.previous

-- the answer is an entry of a set, or says that there is no such entry or no such port (own)
abbrev pub IsEntry : Option Entry → SessionAnswer → Type 0
IsEntry None answered = answered ≡ answer.Nothing
IsEntry (Some entry) (answer.Entry key octets) = (key ≡ entry.0) × (octets.items ≡ entry.1)
IsEntry (Some entry) _ = ⊥

abbrev pub IsEntryAt : Option Stored → ℕ → SessionAnswer → Type 0
IsEntryAt None place answered = answered ≡ answer.Nothing
IsEntryAt (Some stored) place answered = IsEntry (slice_get stored.set.entries place) answered

abbrev pub IsEntryOf : Option Port → WhichSet → ℕ → SessionAnswer → Type 0
IsEntryOf None which place answered = answered ≡ answer.Absent
IsEntryOf (Some port) which place answered = IsEntryAt (set_in which port) place answered
