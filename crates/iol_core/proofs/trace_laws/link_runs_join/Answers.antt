use Rattle.iol_core.proofs.Links.{joined}
use Rattle.iol_core.proofs.trace_laws.link_runs_join.Goals as goal

pub returns : goal.returns
returns g c = joined g.L.DeviceLink.number g.L.DeviceLink.steps
