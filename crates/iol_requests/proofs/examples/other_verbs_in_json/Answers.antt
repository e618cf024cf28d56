use Rattle.std.proofs.Common.{refl}
use Rattle.json.proofs.OnLiterals.{json_on_literals}
use Rattle.iol_requests.proofs.examples.other_verbs_in_json.Goals as goal

pub returns : goal.returns
unfolding json_on_literals
returns c = record { clear = refl; rollback = refl; read = refl; status = refl; status_of = refl; help = refl; quit = refl }
