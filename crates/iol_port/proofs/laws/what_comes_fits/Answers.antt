use Rattle.iol_port.proofs.PortLaws.{what_comes_fits}
use Rattle.iol_port.proofs.laws.what_comes_fits.Goals as goal

pub returns : goal.returns
returns c = what_comes_fits
