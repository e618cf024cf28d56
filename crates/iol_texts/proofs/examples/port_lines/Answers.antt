use Rattle.std.proofs.Common.{refl}
use Rattle.std.specs.Fmt.{digits}
use Rattle.iol_texts.specs.Texts.{hex_digits}
use Rattle.iol_texts.proofs.examples.port_lines.Goals as goal

pub returns-clause-set : goal.returns-clause-set
unfolding digits hex_digits
returns-clause-set c = refl

pub returns-clause-no_set : goal.returns-clause-no_set
unfolding digits hex_digits
returns-clause-no_set c = refl

pub returns-clause-label : goal.returns-clause-label
unfolding digits hex_digits
returns-clause-label c = refl
