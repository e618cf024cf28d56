use Rattle.std.proofs.Common.{refl}
use Rattle.std.specs.Fmt.{digits}
use Rattle.json.specs.Print.{escape_byte}
use Rattle.iol_answers.proofs.examples.wrong_lines.Goals as goal

pub returns-clause-json : goal.returns-clause-json
unfolding digits escape_byte
returns-clause-json c = λ same. rw same refl

pub returns-clause-escaped : goal.returns-clause-escaped
unfolding digits escape_byte
returns-clause-escaped c = λ same. rw same refl
