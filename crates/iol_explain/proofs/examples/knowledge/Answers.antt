use Rattle.std.proofs.Common.{refl}
use Rattle.iol_link.specs.Reading.{request_of, answer_of, service_in, carried_in}
use Rattle.iol_link.specs.Service.{service_at}
use Rattle.iol_explain.proofs.examples.knowledge.Goals as goal

pub returns-clause-read : goal.returns-clause-read
unfolding request_of answer_of service_in service_at carried_in
returns-clause-read c = refl

pub returns-clause-its_own : goal.returns-clause-its_own
unfolding request_of answer_of service_in service_at carried_in
returns-clause-its_own c = refl
