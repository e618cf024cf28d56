use Rattle.std.proofs.Common.{refl}
use Rattle.std.specs.Fmt.{digits}
use Rattle.json.specs.Print.{escape_byte}
use Rattle.iol_texts.specs.Texts.{hex_digits}
use Rattle.iol_answers.proofs.examples.ports.Goals as goal

pub returns-clause-words : goal.returns-clause-words
unfolding digits hex_digits
returns-clause-words c = λ same. rw same refl

pub returns-clause-json : goal.returns-clause-json
unfolding digits escape_byte
returns-clause-json c = λ same. rw same refl
