use Rattle.std.proofs.Common.{refl}
use Rattle.hex.proofs.OnLiterals.{hex_on_literals}
use Rattle.iol_script.proofs.examples.octets.Goals as goal

pub returns : goal.returns
unfolding hex_on_literals
returns c = record { cases = refl; none = refl; odd = refl; space = refl; letter = refl }
