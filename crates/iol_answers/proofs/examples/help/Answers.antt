use Rattle.std.proofs.Common.{refl}
use Rattle.std.specs.Fmt.{digits}
use Rattle.json.specs.Print.{escape_byte}
use Rattle.iol_answers.proofs.examples.help.Goals as goal

pub returns-clause-json : goal.returns-clause-json
unfolding digits escape_byte
returns-clause-json c = refl
