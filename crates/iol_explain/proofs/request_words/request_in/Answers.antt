use Rattle.iol_explain.proofs.ReadRequests.{read_is}
use Rattle.iol_explain.proofs.request_words.request_in.Goals as goal

pub returns : goal.returns
returns c = read_is _ _ c.read_request.ensures.found c.read_request.ensures.fault
