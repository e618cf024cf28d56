-- What becomes of a command that a client submits.
use Rattle.std.specs.Prelude.{◌≡◌, ℕ, ◌+◌, nat_le, Bool, if◌then◌else◌, true, false, [], ◌∷◌, ◌++◌, length, Option, Some, None, is_some}
use Rattle.std.specs.Prelude.{Result, Ok, Err}
use Rattle.iol_types.specs.Command.{CommandValue}
use Rattle.iol_types.specs.State.{check}
use Rattle.iol_types.specs.declared.command.CommandFault.{CommandFault}
use Rattle.iol_journal.specs.Numbers.{LAST_NUMBER}
use Rattle.iol_core.specs.Core.{CoreView, live, live_number}
use Rattle.iol_core.specs.declared.core_value.TheConstants.{QUEUE_COMMANDS}
use Rattle.iol_core.specs.declared.stop.StopCause.{StopCause}
use Rattle.iol_core.specs.declared.stop.StopCause.TheVariants.{Closed, DiskFailed, OutOfMemory}
use Rattle.iol_core.specs.declared.ticket.SubmitFault.{SubmitFault}
use Rattle.iol_core.specs.declared.ticket.SubmitFault.TheVariants.{Stopped, Command, QueueFull, Exhausted}
use Rattle.iol_core.specs.declared.ticket.TicketState.{TicketState}
use Rattle.iol_core.specs.declared.ticket.TicketState.TheVariants.{Waiting, Durable, Unsure}

-- no more commands and uploads are accepted (own)
abbrev pub is_stopped : CoreView → Bool
is_stopped core = is_some core.stopped

-- why the queue accepts no further command, by the first cause that applies: it is full, or no number is left (own)
abbrev pub queue_fault : CoreView → Option SubmitFault
queue_fault core =
    if nat_le QUEUE_COMMANDS (length core.queue) then Some QueueFull
    else if nat_le LAST_NUMBER (live_number core) then Some Exhausted
    else None

-- the first cause of two: a fault of the command, or else another (own)
abbrev pub first_cause : Option CommandFault → Option SubmitFault → Option SubmitFault
first_cause (Some fault) others = Some (Command fault)
first_cause None others = others

-- why a command is refused, by the first cause that applies: the core has stopped, the command does not pass in the live state,
-- or the queue does not accept it; `None` if it is accepted (own)
abbrev pub submit_fault : CoreView → CommandValue → Option SubmitFault
submit_fault core command =
    if is_stopped core then Some Stopped
    else first_cause (check (live core) command) (queue_fault core)

-- the core with one more waiting command (own)
abbrev pub queued : CoreView → CommandValue → CoreView
queued core command = record core { queue = core.queue ++ command ∷ [] }

-- a command is accepted under the next number, and waits; or it is refused, and nothing changes (own)
abbrev pub IsSubmit : CoreView → CommandValue → CoreView → Result ℕ SubmitFault → Type 0
IsSubmit old command new (Ok ticket) = (submit_fault old command ≡ None) × (ticket ≡ live_number old + 1) × (new ≡ queued old command)
IsSubmit old command new (Err fault) = (submit_fault old command ≡ Some fault) × (new ≡ old)

-- nothing more is written: the disk has failed, or memory ran out for the waiting commands while the master ended (own)
abbrev pub writes_no_more : Option StopCause → Bool
writes_no_more (Some DiskFailed) = true
writes_no_more (Some OutOfMemory) = true
writes_no_more _ = false

-- the cause of a stop after this one comes too: the latest, except that a failed disk stays the cause, and so does running out of
-- memory if the core is closed afterwards (own)
abbrev pub stopped_by : Option StopCause → StopCause → StopCause
stopped_by (Some DiskFailed) cause = DiskFailed
stopped_by (Some OutOfMemory) Closed = OutOfMemory
stopped_by stopped cause = cause

-- what is known of a command with this number: it is durable up to the durable number; above that it is unsure once nothing more
-- is written, and waits before that (own)
abbrev pub ticket_state : CoreView → ℕ → TicketState
ticket_state core number =
    if nat_le number core.number then Durable
    else if writes_no_more core.stopped then Unsure
    else Waiting
