use Rattle.std.proofs.Common.{refl}
use Rattle.std.specs.Fmt.{digits}
use Rattle.iol_texts.specs.Texts.{hex_digits}
use Rattle.iol_link.specs.Reading.{request_of, answer_of, service_in, carried_in}
use Rattle.iol_link.specs.Service.{service_at}
use Rattle.iol_explain.proofs.examples.commands.Goals as goal

pub returns-clause-upload_start : goal.returns-clause-upload_start
unfolding digits hex_digits request_of answer_of service_in service_at carried_in
returns-clause-upload_start c = refl

pub returns-clause-upload_end : goal.returns-clause-upload_end
unfolding digits hex_digits request_of answer_of service_in service_at carried_in
returns-clause-upload_end c = refl

pub returns-clause-download_start : goal.returns-clause-download_start
unfolding digits hex_digits request_of answer_of service_in service_at carried_in
returns-clause-download_start c = refl

pub returns-clause-download_end : goal.returns-clause-download_end
unfolding digits hex_digits request_of answer_of service_in service_at carried_in
returns-clause-download_end c = refl

pub returns-clause-break_off : goal.returns-clause-break_off
unfolding digits hex_digits request_of answer_of service_in service_at carried_in
returns-clause-break_off c = refl

pub returns-clause-none : goal.returns-clause-none
unfolding digits hex_digits request_of answer_of service_in service_at carried_in
returns-clause-none c = refl

pub returns-clause-no_octet : goal.returns-clause-no_octet
unfolding digits hex_digits request_of answer_of service_in service_at carried_in
returns-clause-no_octet c = refl

pub returns-clause-two_octets : goal.returns-clause-two_octets
unfolding digits hex_digits request_of answer_of service_in service_at carried_in
returns-clause-two_octets c = refl
