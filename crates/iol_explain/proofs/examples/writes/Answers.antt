use Rattle.std.proofs.Common.{refl}
use Rattle.std.specs.Fmt.{digits}
use Rattle.iol_texts.specs.Texts.{hex_digits}
use Rattle.iol_link.specs.Reading.{request_of, answer_of, service_in, carried_in}
use Rattle.iol_link.specs.Service.{service_at}
use Rattle.iol_explain.proofs.examples.writes.Goals as goal

pub returns-clause-parameter : goal.returns-clause-parameter
unfolding digits hex_digits request_of answer_of service_in service_at carried_in
returns-clause-parameter c = refl

pub returns-clause-no_octet : goal.returns-clause-no_octet
unfolding digits hex_digits request_of answer_of service_in service_at carried_in
returns-clause-no_octet c = refl

pub returns-clause-state_property : goal.returns-clause-state_property
unfolding digits hex_digits request_of answer_of service_in service_at carried_in
returns-clause-state_property c = refl
