-- The news of a master.
use Rattle.std.specs.Prelude.{◌≡◌, ◌≢◌, ◌<◌, ◌+◌, ◌-◌, ℕ, List, length, Option, Some, None, slice_get, slice_set}
use Rattle.iol_types.specs.Command.{CommandValue}
use Rattle.iol_front.specs.Fronts.{Start}
use Rattle.iol_headline.specs.Statuses.{IsLastReported}
use Rattle.iol_port.specs.declared.status.PortStatus.{PortStatus}
use Rattle.iol_master.specs.declared.news.News.{News}
use Rattle.iol_master.specs.declared.news.News.TheVariants.{Status, Durable}

-- what is known of a master, as contracts see it: the status of each port, port 1 first, and the number of the last durable command (own)
pub record KnownView : Type 0 where
  pub statuses : List PortStatus
  pub number : ℕ

-- the news is new: the port has another status than is known of it, or more commands are durable (own)
abbrev pub IsNew : KnownView → News → Type 0
IsNew known (Status port status) = (last : PortStatus) × (slice_get known.statuses (port - 1) ≡ Some last) × (status ≢ last)
IsNew known (Durable number) = known.number < number

-- the news is true: a lawful trace that began as the front did reported this status of the port last; or a client has seen exactly the
-- commands up to this number (own)
abbrev pub IsSo : Start → List CommandValue → News → Type 0
IsSo start seen (Status port status) = IsLastReported start port status
IsSo start seen (Durable number) = number ≡ start.number + length seen

-- what is known once this news is added (own)
abbrev pub known_with : KnownView → News → KnownView
known_with known (Status port status) = record known { statuses = slice_set known.statuses (port - 1) status }
known_with known (Durable number) = record known { number = number }

-- what is known after a report, with its news if it has any (own)
abbrev pub known_after : KnownView → Option News → KnownView
known_after known None = known
known_after known (Some news) = known_with known news
