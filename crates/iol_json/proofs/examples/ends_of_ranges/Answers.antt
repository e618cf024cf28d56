use Rattle.std.proofs.Common.{refl}
use Rattle.hex.proofs.OnLiterals.{hex_on_literals}
use Rattle.serde_json.proofs.OnLiterals.{serde_json_on_literals}
use Rattle.iol_json.proofs.examples.ends_of_ranges.Goals as goal

pub returns-clause-no_octets : goal.returns-clause-no_octets
unfolding hex_on_literals
returns-clause-no_octets c = refl

pub returns-clause-digits : goal.returns-clause-digits
unfolding hex_on_literals
returns-clause-digits c = refl

pub returns-clause-last_revision : goal.returns-clause-last_revision
unfolding serde_json_on_literals
returns-clause-last_revision c = refl
