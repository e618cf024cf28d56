-- The status of a port in a lawful trace.
use Rattle.std.specs.Prelude.{◌≡◌, ℕ, List}
use Rattle.iol_front.specs.Fronts.{Start}
use Rattle.iol_port.specs.Telling.{status_told}
use Rattle.iol_port.specs.declared.status.PortStatus.{PortStatus}
use Rattle.iol_core.specs.Events.{Stamp}
use Rattle.iol_core.specs.Own.{status_shown}
use Rattle.iol_headline.specs.Laws.{IsLawful}

-- a lawful trace that began as the front did reported this status of the port last (own)
pub record IsLastReported (start : Start) (port : ℕ) (status : PortStatus) : Type 0 where
  pub events : List Stamp
  pub lawful : IsLawful start.number start.state events
  pub shown : status_shown port events ≡ status_told status
