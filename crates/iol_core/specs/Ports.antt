-- What a core reports of a port.
use Rattle.std.specs.Prelude.{ℕ, Option}
use Rattle.std.specs.Option.{option_map}
use Rattle.iol_types.specs.State.{Port, Stored, port_numbered}
use Rattle.iol_core.specs.Core.{CoreView, live}
use Rattle.iol_core.specs.Downloads.{durable_set}
use Rattle.iol_core.specs.declared.port.View.{View}
use Rattle.iol_core.specs.declared.port.Work.{Work}

-- what a port works with: the live configuration and revision, and the checksum of the durable set, if there is one
-- (own)
abbrev pub work_of : Port → Option Stored → Work
work_of port stored =
    record { config = port.config; revision = port.revision; checksum = option_map (λ stored. stored.set.checksum) stored }

abbrev pub work_at : CoreView → ℕ → Option Work
work_at core port = option_map (λ p. work_of p (durable_set core port)) (port_numbered (live core) port)

-- the durable state of a port, and the durable number (own)
abbrev pub view_at : CoreView → ℕ → Option View
view_at core port = option_map (λ p. record { port = p; number = core.number }) (port_numbered core.durable port)
