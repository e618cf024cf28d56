use Rattle.iol_port.proofs.PortLaws.{a_set_is_filed_whole}
use Rattle.iol_port.proofs.laws.a_set_is_filed_whole.Goals as goal

pub returns : goal.returns
returns c = a_set_is_filed_whole
