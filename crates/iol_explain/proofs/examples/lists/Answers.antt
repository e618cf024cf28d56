use Rattle.std.proofs.Common.{refl}
use Rattle.std.specs.Fmt.{digits}
use Rattle.iol_texts.specs.Texts.{hex_digits}
use Rattle.iol_explain.proofs.examples.lists.Goals as goal

pub returns-clause-no_key : goal.returns-clause-no_key
unfolding digits hex_digits
returns-clause-no_key c = refl

pub returns-clause-further_list : goal.returns-clause-further_list
unfolding digits hex_digits
returns-clause-further_list c = refl

pub returns-clause-broken_off : goal.returns-clause-broken_off
unfolding digits hex_digits
returns-clause-broken_off c = refl

pub returns-clause-reserved : goal.returns-clause-reserved
unfolding digits hex_digits
returns-clause-reserved c = refl
