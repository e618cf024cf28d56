use Rattle.std.proofs.Common.{refl}
use Rattle.json.proofs.OnLiterals.{json_on_literals}
use Rattle.iol_requests.proofs.examples.refused_in_json.Goals as goal

pub returns : goal.returns
unfolding json_on_literals
returns c = record { objects = refl; twice = refl; escaped = refl; missing = refl; unknown = refl; values = refl }
