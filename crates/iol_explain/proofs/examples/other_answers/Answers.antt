use Rattle.std.proofs.Common.{refl}
use Rattle.std.specs.Fmt.{digits}
use Rattle.iol_texts.specs.Texts.{hex_digits}
use Rattle.iol_link.specs.Reading.{request_of, answer_of, service_in, carried_in}
use Rattle.iol_link.specs.Service.{service_at}
use Rattle.iol_explain.proofs.examples.other_answers.Goals as goal

pub returns-clause-written : goal.returns-clause-written
unfolding digits hex_digits request_of answer_of service_in service_at carried_in
returns-clause-written c = refl

pub returns-clause-write_refused : goal.returns-clause-write_refused
unfolding digits hex_digits request_of answer_of service_in service_at carried_in
returns-clause-write_refused c = refl

pub returns-clause-read : goal.returns-clause-read
unfolding digits hex_digits request_of answer_of service_in service_at carried_in
returns-clause-read c = refl

pub returns-clause-read_refused : goal.returns-clause-read_refused
unfolding digits hex_digits request_of answer_of service_in service_at carried_in
returns-clause-read_refused c = refl

pub returns-clause-empty : goal.returns-clause-empty
unfolding digits hex_digits request_of answer_of service_in service_at carried_in
returns-clause-empty c = refl

pub returns-clause-service : goal.returns-clause-service
unfolding digits hex_digits request_of answer_of service_in service_at carried_in
returns-clause-service c = refl

pub returns-clause-check : goal.returns-clause-check
unfolding digits hex_digits request_of answer_of service_in service_at carried_in
returns-clause-check c = refl
