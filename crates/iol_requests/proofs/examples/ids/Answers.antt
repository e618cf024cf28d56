use Rattle.std.proofs.Common.{refl}
use Rattle.json.proofs.OnLiterals.{json_on_literals}
use Rattle.iol_requests.proofs.examples.ids.Goals as goal

pub returns : goal.returns
unfolding json_on_literals
returns c = record { numbers = refl; longest = refl; longer = refl; others = refl; kept = refl }
