use Rattle.std.proofs.Common.{ap}
use Rattle.iol_explain.specs.Requests.{request_words}
use Rattle.iol_explain.proofs.ChangedOctets.{refused}
use Rattle.iol_explain.proofs.laws.a_changed_octet_is_malformed.Goals as goal

pub returns : goal.returns
returns c = λ before behind octet other request all all_other ok differs.
    let told = refused before behind octet other request all all_other ok differs in (told.0, ap request_words told.1)
