use Rattle.iol_run.specs.PortRuns.{steps_of}
use Rattle.iol_headline.proofs.Everywhere.{lawful}
use Rattle.iol_headline.proofs.laws.ports_are_lawful.Goals as goal

pub returns : goal.returns
returns g c = record {
  lawful = λ first start made links events last.
      lawful first start g.L.DeviceLink.number g.L.DeviceLink.steps (λ port. steps_of port made) links events last;
}
