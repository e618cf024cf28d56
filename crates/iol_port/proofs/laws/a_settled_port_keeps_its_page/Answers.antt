use Rattle.iol_port.proofs.Comparing.{a_settled_port_keeps_its_page}
use Rattle.iol_port.proofs.laws.a_settled_port_keeps_its_page.Goals as goal

pub returns : goal.returns
returns c = a_settled_port_keeps_its_page
