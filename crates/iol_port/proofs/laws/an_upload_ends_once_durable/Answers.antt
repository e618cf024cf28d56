use Rattle.iol_port.proofs.PortLaws.{an_upload_ends_once_durable}
use Rattle.iol_port.proofs.laws.an_upload_ends_once_durable.Goals as goal

pub returns : goal.returns
returns c = an_upload_ends_once_durable
