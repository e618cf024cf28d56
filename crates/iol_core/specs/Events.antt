-- The events of a run, as plain data.
use Rattle.std.specs.Prelude.{ℕ, List, map, Option}
use Rattle.iol_types.specs.Command.{CommandValue}
use Rattle.iol_core.specs.Statuses.{Refusal, Work, Status}

-- an event of a run. A command is accepted under a number, or refused. A port reads its device's page, exchanges a
-- request and an answer with it, or loses it, on a connection of its link; it gets its work, or its status changes.
-- Commands up to a number are acknowledged, or a disk call fails (own)
pub data Event : Type 0 where
  Accepted : (number : ℕ) (command : CommandValue) → Event
  Refused : (refusal : Refusal) → Event
  Page : (port connection : ℕ) (octets : List ℕ) → Event
  Exchange : (port connection : ℕ) (request answer : List ℕ) → Event
  -- without a request, the device was lost at the read of the page
  Lost : (port connection : ℕ) (request : Option (List ℕ)) → Event
  Attended : (port : ℕ) (work : Work) → Event
  Changed : (port : ℕ) (status : Status) → Event
  Acknowledged : (number : ℕ) → Event
  DiskFailed : Event

-- an event, and the disk's clock when it happened (own)
pub record Stamp : Type 0 where
  pub event : Event
  pub clock : ℕ

-- events that happened at the same clock (own)
abbrev pub stamped : ℕ → List Event → List Stamp
stamped clock events = map (λ event. record { event = event; clock = clock }) events
