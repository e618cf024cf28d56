use Rattle.iol_port.proofs.PortLaws.{an_upload_is_decided}
use Rattle.iol_port.proofs.laws.an_upload_is_decided.Goals as goal

pub returns : goal.returns
returns c = an_upload_is_decided
