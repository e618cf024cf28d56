use Rattle.std.proofs.Common.{ap, ◌∙◌, arith}
use Rattle.std.specs.Result.{result_err}
use Rattle.iol_link.proofs.RequestTexts.{request_is, request_reads}
use Rattle.iol_link.proofs.FirstFaults.{request_refused}
use Rattle.iol_link.proofs.reading.read_request.Goals as goal

pub returns-clause-found : goal.returns-clause-found
returns-clause-found c = request_is _ _ (λ i. omega (arith, c.type_inv.octets i)) c.parse_request.ensures

pub returns-clause-only : goal.returns-clause-only
returns-clause-only c = λ request is. c.parse_request.ensures ∙ request_reads _ request is

pub returns-clause-fault : goal.returns-clause-fault
returns-clause-fault c = ap result_err c.parse_request.ensures ∙ request_refused _
