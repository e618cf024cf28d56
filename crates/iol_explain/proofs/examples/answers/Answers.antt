use Rattle.std.proofs.Common.{refl}
use Rattle.std.specs.Fmt.{digits}
use Rattle.iol_texts.specs.Texts.{hex_digits}
use Rattle.iol_link.specs.Reading.{request_of, answer_of, service_in, carried_in}
use Rattle.iol_link.specs.Service.{service_at}
use Rattle.iol_explain.proofs.examples.answers.Goals as goal

pub returns-clause-state_property : goal.returns-clause-state_property
unfolding digits hex_digits request_of answer_of service_in service_at carried_in
returns-clause-state_property c = refl

pub returns-clause-size : goal.returns-clause-size
unfolding digits hex_digits request_of answer_of service_in service_at carried_in
returns-clause-size c = refl

pub returns-clause-checksum : goal.returns-clause-checksum
unfolding digits hex_digits request_of answer_of service_in service_at carried_in
returns-clause-checksum c = refl

pub returns-clause-index_list : goal.returns-clause-index_list
unfolding digits hex_digits request_of answer_of service_in service_at carried_in
returns-clause-index_list c = refl

pub returns-clause-parameter : goal.returns-clause-parameter
unfolding digits hex_digits request_of answer_of service_in service_at carried_in
returns-clause-parameter c = refl

pub returns-clause-written : goal.returns-clause-written
unfolding digits hex_digits request_of answer_of service_in service_at carried_in
returns-clause-written c = refl

pub returns-clause-read_refused : goal.returns-clause-read_refused
unfolding digits hex_digits request_of answer_of service_in service_at carried_in
returns-clause-read_refused c = refl

pub returns-clause-write_refused : goal.returns-clause-write_refused
unfolding digits hex_digits request_of answer_of service_in service_at carried_in
returns-clause-write_refused c = refl

pub returns-clause-busy : goal.returns-clause-busy
unfolding digits hex_digits request_of answer_of service_in service_at carried_in
returns-clause-busy c = refl
