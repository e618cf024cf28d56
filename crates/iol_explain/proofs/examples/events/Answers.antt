use Rattle.std.proofs.Common.{refl}
use Rattle.std.specs.Fmt.{digits}
use Rattle.iol_texts.specs.Texts.{hex_digits}
use Rattle.iol_link.specs.Reading.{request_of, answer_of, service_in, carried_in}
use Rattle.iol_link.specs.Service.{service_at}
use Rattle.iol_explain.proofs.examples.events.Goals as goal

pub returns-clause-accepted : goal.returns-clause-accepted
unfolding digits hex_digits request_of answer_of service_in service_at carried_in
returns-clause-accepted c = refl

pub returns-clause-refused : goal.returns-clause-refused
unfolding digits hex_digits request_of answer_of service_in service_at carried_in
returns-clause-refused c = refl

pub returns-clause-page : goal.returns-clause-page
unfolding digits hex_digits request_of answer_of service_in service_at carried_in
returns-clause-page c = refl

pub returns-clause-exchange : goal.returns-clause-exchange
unfolding digits hex_digits request_of answer_of service_in service_at carried_in
returns-clause-exchange c = refl

pub returns-clause-lost_at_a_request : goal.returns-clause-lost_at_a_request
unfolding digits hex_digits request_of answer_of service_in service_at carried_in
returns-clause-lost_at_a_request c = refl

pub returns-clause-status : goal.returns-clause-status
unfolding digits hex_digits request_of answer_of service_in service_at carried_in
returns-clause-status c = refl

pub returns-clause-acknowledged : goal.returns-clause-acknowledged
unfolding digits hex_digits request_of answer_of service_in service_at carried_in
returns-clause-acknowledged c = refl

pub returns-clause-failed : goal.returns-clause-failed
unfolding digits hex_digits request_of answer_of service_in service_at carried_in
returns-clause-failed c = refl
