use Rattle.iol_port.proofs.PortLaws.{a_download_sends_its_set}
use Rattle.iol_port.proofs.laws.a_download_sends_its_set.Goals as goal

pub returns : goal.returns
returns c = a_download_sends_its_set
