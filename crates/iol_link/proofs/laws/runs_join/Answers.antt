use Rattle.iol_link.proofs.Runs.{run-append}
use Rattle.iol_link.proofs.laws.runs_join.Goals as goal

pub returns : goal.returns
returns g c = run-append g.L.DeviceLink.number g.L.DeviceLink.steps
