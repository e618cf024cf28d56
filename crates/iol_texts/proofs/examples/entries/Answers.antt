use Rattle.std.proofs.Common.{refl}
use Rattle.iol_texts.specs.Texts.{hex_digits}
use Rattle.iol_texts.proofs.examples.entries.Goals as goal

pub returns-clause-octets : goal.returns-clause-octets
unfolding hex_digits
returns-clause-octets c = refl

pub returns-clause-no_octets : goal.returns-clause-no_octets
unfolding hex_digits
returns-clause-no_octets c = refl
