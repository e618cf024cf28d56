use Rattle.std.proofs.Common.{refl}
use Rattle.std.specs.Fmt.{digits}
use Rattle.json.specs.Print.{escape_byte}
use Rattle.iol_answers.proofs.examples.texts_as_ids.Goals as goal

pub returns : goal.returns
unfolding digits escape_byte
returns c = λ same. rw same refl
