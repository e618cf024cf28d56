use Rattle.iol_port.proofs.SettlingLaws.{a_port_settles_for_its_reason}
use Rattle.iol_port.proofs.laws.a_port_settles_for_its_reason.Goals as goal

pub returns : goal.returns
returns c = a_port_settles_for_its_reason
