-- Which ports wait until the set that they filed is durable.
use Rattle.std.specs.Prelude.{◌-◌, ℕ, Bool, true, false, Option, None, Some, slice_get}
use Rattle.iol_core.specs.Core.{CoreView}
use Rattle.iol_core.specs.Submit.{ticket_state}
use Rattle.iol_core.specs.declared.ticket.TicketState.{TicketState}
use Rattle.iol_core.specs.declared.ticket.TicketState.TheVariants.{Waiting}
use Rattle.iol_port.specs.Awaited.{awaited}
use Rattle.iol_port.specs.Stage.{PortValue}
use Rattle.iol_engine.specs.Engine.{EngineView}

-- a command waits for the disk (own)
abbrev pub is_waiting : TicketState → Bool
is_waiting Waiting = true
is_waiting _ = false

-- a core has the command with this number, if there is one, and it waits for the disk (own)
abbrev pub has_waiting : CoreView → Option ℕ → Bool
has_waiting core None = false
has_waiting core (Some number) = is_waiting (ticket_state core number)

-- a port is there and waits for the disk: it has filed its set, and the ticket of that command is `Waiting` (own)
abbrev pub waits_in : CoreView → Option PortValue → Bool
waits_in core None = false
waits_in core (Some machine) = has_waiting core (awaited machine.stage)

-- the port of an engine with this number waits for the disk (own)
abbrev pub waits_at : EngineView → ℕ → Bool
waits_at engine port = waits_in engine.core (slice_get engine.machines (port - 1))
