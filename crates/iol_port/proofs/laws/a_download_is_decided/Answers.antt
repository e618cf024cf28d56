use Rattle.iol_port.proofs.PortLaws.{a_download_is_decided}
use Rattle.iol_port.proofs.laws.a_download_is_decided.Goals as goal

pub returns : goal.returns
returns c = a_download_is_decided
