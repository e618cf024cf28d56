-- A port's own events.
use Rattle.std.specs.Prelude.{ℕ, nat_eq, if◌then◌else◌, List, [], ◌∷◌, ◌++◌, fold}
use Rattle.iol_types.specs.Command.{CommandValue, Store}
use Rattle.iol_core.specs.Events.{Event, Accepted, Refused, Page, Exchange, Lost, Attended, Changed, Acknowledged, DiskFailed, Stamp}
use Rattle.iol_core.specs.Statuses.{Status, Off}

-- an item reported of a port, if the port is this one (own)
abbrev pub at_port : {A : Type 0} → ℕ → ℕ → A → List A
at_port port told it = if nat_eq told port then it ∷ [] else []

-- an accepted command, if it is a Store for this port: clients cannot submit a Store (own)
abbrev pub own_command : ℕ → ℕ → CommandValue → List Event
own_command port number (Store told revision set) = at_port port told (Accepted number (Store told revision set))
own_command port number command = []

-- an event, if it is this port's own: the page of its device, an exchange with the device or its loss, the port's work, an
-- accepted set of the port, or its status (own)
abbrev pub own_in : ℕ → Event → List Event
own_in port (Accepted number command) = own_command port number command
own_in port (Refused refusal) = []
own_in port (Page told connection octets) = at_port port told (Page told connection octets)
own_in port (Exchange told connection request answer) = at_port port told (Exchange told connection request answer)
own_in port (Lost told connection request) = at_port port told (Lost told connection request)
own_in port (Attended told work) = at_port port told (Attended told work)
own_in port (Changed told status) = at_port port told (Changed told status)
own_in port (Acknowledged number) = []
own_in port DiskFailed = []

-- a port's own events, in order (own)
abbrev pub own : ℕ → List Stamp → List Event
own port [] = []
own port (e ∷ events) = own_in port e.event ++ own port events

-- the status after an event (own)
abbrev pub status_by : Status → Event → Status
status_by was (Changed told status) = status
status_by was event = was

-- the last status that events report, or the one before them (own)
abbrev pub status_after : Status → List Event → Status
status_after was events = fold (λ (s : Status) (e : Event). status_by s e) was events

-- the status of a port as events report it: off, until another is reported (own)
abbrev pub status_shown : ℕ → List Stamp → Status
status_shown port events = status_after Off (own port events)
