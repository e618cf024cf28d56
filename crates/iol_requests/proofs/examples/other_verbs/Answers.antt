use Rattle.std.proofs.Common.{refl}
use Rattle.toml.proofs.OnLiterals.{toml_on_literals}
use Rattle.iol_requests.proofs.examples.other_verbs.Goals as goal

pub returns : goal.returns
unfolding toml_on_literals
returns c = record { clear = refl; rollback = refl; read = refl; status = refl; status_of = refl; help = refl; quit = refl }
