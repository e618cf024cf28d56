use Rattle.std.proofs.Common.{refl}
use Rattle.std.specs.Fmt.{digits}
use Rattle.iol_texts.specs.Texts.{hex_digits}
use Rattle.iol_explain.proofs.examples.places.Goals as goal

pub returns-clause-area_a : goal.returns-clause-area_a
unfolding digits hex_digits
returns-clause-area_a c = refl

pub returns-clause-area_b : goal.returns-clause-area_b
unfolding digits hex_digits
returns-clause-area_b c = refl

pub returns-clause-older : goal.returns-clause-older
unfolding digits hex_digits
returns-clause-older c = refl
