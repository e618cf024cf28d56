use Rattle.std.proofs.Common.{refl}
use Rattle.std.specs.Fmt.{digits}
use Rattle.iol_texts.specs.Texts.{hex_digits}
use Rattle.iol_explain.proofs.examples.disk_calls.Goals as goal

pub returns-clause-open : goal.returns-clause-open
unfolding digits hex_digits
returns-clause-open c = refl

pub returns-clause-closed : goal.returns-clause-closed
unfolding digits hex_digits
returns-clause-closed c = refl

pub returns-clause-body : goal.returns-clause-body
unfolding digits hex_digits
returns-clause-body c = refl

pub returns-clause-sync : goal.returns-clause-sync
unfolding digits hex_digits
returns-clause-sync c = refl
