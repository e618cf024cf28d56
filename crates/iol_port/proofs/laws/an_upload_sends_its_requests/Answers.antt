use Rattle.iol_port.proofs.PortLaws.{an_upload_sends_its_requests}
use Rattle.iol_port.proofs.laws.an_upload_sends_its_requests.Goals as goal

pub returns : goal.returns
returns c = an_upload_sends_its_requests
