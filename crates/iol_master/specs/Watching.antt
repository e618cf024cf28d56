-- The answers to a client that waits for another status of a port.
use Rattle.std.specs.Prelude.{◌≢◌, ◌-◌, ℕ, if◌then◌else◌, Option, Some, None, Result, Ok, Err, slice_get}
use Rattle.iol_front.specs.Fronts.{Start}
use Rattle.iol_headline.specs.Statuses.{IsLastReported}
use Rattle.iol_port.specs.Sameness.{same_status}
use Rattle.iol_port.specs.declared.status.PortStatus.{PortStatus}
use Rattle.iol_engine.specs.HandedSteps.{status_in}
use Rattle.iol_master.specs.Callers.{GuardedView}
use Rattle.iol_master.specs.Faults.{IsUnknown}
use Rattle.iol_master.specs.declared.guarded.Phase.{Phase}
use Rattle.iol_master.specs.declared.guarded.Phase.TheVariants.{Running, Ending, Closed}
use Rattle.iol_master.specs.declared.watching.WatchFault.{WatchFault}
use Rattle.iol_master.specs.declared.watching.WatchFault.TheVariants as fault

-- the answer to a client while the port has the status that the client has seen: none, or `Ended` once no port makes a step any more (own)
abbrev pub heard_of_same : Phase → Option (Result PortStatus WatchFault)
heard_of_same Running = None
heard_of_same Ending = None
heard_of_same Closed = Some (Err fault.Ended)

-- the answer to a client that has seen this status of a port: a fault if the port does not exist, its status now if that is another, and
-- otherwise the answer for the same status (own)
abbrev pub heard_of : Phase → Option PortStatus → PortStatus → Option (Result PortStatus WatchFault)
heard_of phase None seen = Some (Err fault.UnknownPort)
heard_of phase (Some status) seen = if same_status status seen then heard_of_same phase else Some (Ok status)

-- the answer to a client that has seen this status of the port with this number; none while the client waits (own)
abbrev pub heard_at : GuardedView → ℕ → PortStatus → Option (Result PortStatus WatchFault)
heard_at guarded port seen = heard_of guarded.phase (status_in (slice_get guarded.engine.machines (port - 1))) seen

-- a lawful trace that began as the front did reported this status of the port last, and it is another than the client had seen (own)
abbrev pub IsAnother : Start → ℕ → PortStatus → PortStatus → Type 0
IsAnother start port seen status = IsLastReported start port status × (status ≢ seen)

-- a client gets no other status: the master has no such port; or it has ended, and the status that the client had seen is what a lawful
-- trace reported of the port last (own)
abbrev pub IsWatchFault : Start → ℕ → PortStatus → WatchFault → Type 0
IsWatchFault start port seen fault.UnknownPort = IsUnknown start.state port
IsWatchFault start port seen fault.Ended = IsLastReported start port seen

-- the final answer to a client: another status, or the fault for which there is none (own)
abbrev pub IsHeard : Start → ℕ → PortStatus → Result PortStatus WatchFault → Type 0
IsHeard start port seen (Ok status) = IsAnother start port seen status
IsHeard start port seen (Err why) = IsWatchFault start port seen why
