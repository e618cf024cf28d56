use Rattle.std.proofs.Common.{refl}
use Rattle.hex.proofs.OnLiterals.{hex_on_literals}
use Rattle.toml.proofs.OnLiterals.{toml_on_literals}
use Rattle.iol_script.proofs.examples.steps_of_no_client.Goals as goal

pub returns : goal.returns
unfolding toml_on_literals hex_on_literals
returns c = record { steps = refl; stop = refl; drain = refl }
