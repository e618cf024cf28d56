-- Which workers sleep, and which ports are still served.
use Rattle.std.specs.Prelude.{◌-◌, ◌==◌, ◌&&◌, ◌||◌, not, ℕ, Bool, true, false, Option, Some, slice_get, slice_index}
use Rattle.iol_port.specs.declared.status.PortStatus.{PortStatus}
use Rattle.iol_port.specs.declared.status.PortStatus.TheVariants.{Off}
use Rattle.iol_engine.specs.HandedSteps.{settled_in, status_in}
use Rattle.iol_engine.specs.Waits.{waits_at}
use Rattle.iol_master.specs.Callers.{GuardedView, ends}

-- a port is off (own)
abbrev pub is_off : Option PortStatus → Bool
is_off (Some Off) = true
is_off _ = false

-- a port was woken since its worker had answered this number of wakes (own)
abbrev pub was_woken : GuardedView → ℕ → ℕ → Bool
was_woken guarded port answered = not (slice_index guarded.wakes (port - 1) == answered)

-- the worker of a port sleeps, if it has answered this number of wakes: the port waits for the disk; or the run is not to end, and the port
-- is off and was not woken since (own)
abbrev pub sleeps : GuardedView → ℕ → ℕ → Bool
sleeps guarded port answered =
    waits_at guarded.engine port
    || (is_off (status_in (slice_get guarded.engine.machines (port - 1))) && not (ends guarded.phase)
    && not (was_woken guarded port answered))

-- a port is still served, if its worker has answered this number of wakes: it is not settled, the run is not to end, or it was woken since,
-- as each port is at the end (own)
abbrev pub is_served : GuardedView → ℕ → ℕ → Bool
is_served guarded port answered =
    not (settled_in (slice_get guarded.engine.machines (port - 1))) || not (ends guarded.phase) || was_woken guarded port answered
