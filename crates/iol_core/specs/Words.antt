-- Commands, numbers and acknowledgements in the events of a run.
use Rattle.std.specs.Prelude.{◌≡◌, ◌+◌, ◌-◌, ◌⊎◌, ℕ, List, [], ◌∷◌, ◌++◌, fold, take}
use Rattle.iol_types.specs.Command.{CommandValue}
use Rattle.iol_types.specs.State.{State, after}
use Rattle.iol_core.specs.Events.{Event, Accepted, Acknowledged, DiskFailed, Stamp}

-- the command that an event accepts, and its number (own)
abbrev pub command_in : Event → List CommandValue
command_in (Accepted number command) = command ∷ []
command_in event = []

abbrev pub number_in : Event → List ℕ
number_in (Accepted number command) = number ∷ []
number_in event = []

-- the accepted commands in order, and their numbers (own)
abbrev pub accepted : List Stamp → List CommandValue
accepted [] = []
accepted (e ∷ events) = command_in e.event ++ accepted events

abbrev pub numbers : List Stamp → List ℕ
numbers [] = []
numbers (e ∷ events) = number_in e.event ++ numbers events

-- the number up to which commands are acknowledged after an event (own)
abbrev pub acked_by : ℕ → Event → ℕ
acked_by number (Acknowledged last) = last
acked_by number event = number

-- the number in the last `Acknowledged`, or the start number (own)
abbrev pub acked : ℕ → List Stamp → ℕ
acked first events = fold (λ (number : ℕ) (e : Stamp). acked_by number e.event) first events

-- the durable state: the start state after the acknowledged commands (own)
abbrev pub durable : ℕ → State → List Stamp → State
durable first start events = after start (take (acked first events - first) (accepted events))

-- the disk's clock at the last event, or at the beginning (own)
abbrev pub clock_after : ℕ → List Stamp → ℕ
clock_after begun events = fold (λ (t : ℕ) (e : Stamp). e.clock) begun events

-- an event reports a failure of the disk, or one of the events does (own)
abbrev pub IsFailure : Event → Type 0
IsFailure DiskFailed = Unit {0}
IsFailure event = ⊥

abbrev pub HasFailure : List Stamp → Type 0
HasFailure [] = ⊥
HasFailure (e ∷ events) = IsFailure e.event ⊎ HasFailure events

-- numbers rise by one, starting with the one after this (own)
abbrev pub RiseByOne : ℕ → List ℕ → Type 0
RiseByOne last [] = Unit {0}
RiseByOne last (number ∷ rest) = (number ≡ last + 1) × RiseByOne number rest
