use Rattle.std.proofs.Common.{refl}
use Rattle.toml.proofs.OnLiterals.{toml_on_literals}
use Rattle.iol_requests.proofs.examples.configures.Goals as goal

pub returns : goal.returns
unfolding toml_on_literals
returns c = record { labelled = refl; unlabelled = refl; spelled = refl; another = refl }
