use Rattle.std.proofs.Common.{refl}
use Rattle.std.specs.Fmt.{digits}
use Rattle.iol_texts.specs.Texts.{hex_digits}
use Rattle.iol_explain.proofs.examples.pages.Goals as goal

pub returns-clause-known : goal.returns-clause-known
unfolding digits hex_digits
returns-clause-known c = refl

pub returns-clause-unknown : goal.returns-clause-unknown
unfolding digits hex_digits
returns-clause-unknown c = refl
