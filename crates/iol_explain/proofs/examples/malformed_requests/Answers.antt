use Rattle.std.proofs.Common.{refl}
use Rattle.std.specs.Fmt.{digits}
use Rattle.iol_texts.specs.Texts.{hex_digits}
use Rattle.iol_link.specs.Reading.{request_of, answer_of, service_in, carried_in}
use Rattle.iol_link.specs.Service.{service_at}
use Rattle.iol_explain.proofs.examples.malformed_requests.Goals as goal

pub returns-clause-empty : goal.returns-clause-empty
unfolding digits hex_digits request_of answer_of service_in service_at carried_in
returns-clause-empty c = refl

pub returns-clause-reserved : goal.returns-clause-reserved
unfolding digits hex_digits request_of answer_of service_in service_at carried_in
returns-clause-reserved c = refl

pub returns-clause-service : goal.returns-clause-service
unfolding digits hex_digits request_of answer_of service_in service_at carried_in
returns-clause-service c = refl

pub returns-clause-length : goal.returns-clause-length
unfolding digits hex_digits request_of answer_of service_in service_at carried_in
returns-clause-length c = refl

pub returns-clause-check : goal.returns-clause-check
unfolding digits hex_digits request_of answer_of service_in service_at carried_in
returns-clause-check c = refl
