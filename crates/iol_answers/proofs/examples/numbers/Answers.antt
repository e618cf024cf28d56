use Rattle.std.proofs.Common.{refl}
use Rattle.std.specs.Fmt.{digits}
use Rattle.json.specs.Print.{escape_byte}
use Rattle.iol_answers.proofs.examples.numbers.Goals as goal

pub returns-clause-words : goal.returns-clause-words
unfolding digits
returns-clause-words c = refl

pub returns-clause-durable : goal.returns-clause-durable
unfolding digits escape_byte
returns-clause-durable c = refl

pub returns-clause-ended : goal.returns-clause-ended
unfolding digits escape_byte
returns-clause-ended c = refl
