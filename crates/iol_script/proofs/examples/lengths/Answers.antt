use Rattle.std.proofs.Common.{refl}
use Rattle.hex.proofs.OnLiterals.{hex_on_literals}
use Rattle.iol_script.proofs.examples.lengths.Goals as goal

pub returns : goal.returns
unfolding hex_on_literals
returns c = record { longest = refl; longer = refl }
