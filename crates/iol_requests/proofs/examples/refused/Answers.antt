use Rattle.std.proofs.Common.{refl}
use Rattle.toml.proofs.OnLiterals.{toml_on_literals}
use Rattle.iol_requests.proofs.examples.refused.Goals as goal

pub returns : goal.returns
unfolding toml_on_literals
returns c = record { ports = refl; missing = refl; unknown = refl; twice = refl; values = refl }
