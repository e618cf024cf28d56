use Rattle.std.proofs.Common.{refl}
use Rattle.std.specs.Fmt.{digits}
use Rattle.iol_texts.specs.Texts.{hex_digits}
use Rattle.iol_texts.proofs.examples.states.Goals as goal

pub returns : goal.returns
unfolding digits hex_digits
returns c = refl
