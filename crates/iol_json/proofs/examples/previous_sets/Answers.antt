use Rattle.std.proofs.Common.{refl}
use Rattle.hex.proofs.OnLiterals.{hex_on_literals}
use Rattle.serde_json.proofs.OnLiterals.{serde_json_on_literals}
use Rattle.iol_json.proofs.examples.previous_sets.Goals as goal

pub returns : goal.returns
unfolding serde_json_on_literals hex_on_literals
returns c = refl
