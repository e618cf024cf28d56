use Rattle.std.proofs.Common.{refl}
use Rattle.std.specs.Fmt.{digits}
use Rattle.json.specs.Print.{escape_byte}
use Rattle.iol_answers.proofs.examples.receipts.Goals as goal

pub returns-clause-words : goal.returns-clause-words
unfolding digits
returns-clause-words c = refl

pub returns-clause-last : goal.returns-clause-last
unfolding digits
returns-clause-last c = refl

pub returns-clause-no_id : goal.returns-clause-no_id
unfolding digits escape_byte
returns-clause-no_id c = refl

pub returns-clause-number : goal.returns-clause-number
unfolding digits escape_byte
returns-clause-number c = refl
