use Rattle.std.proofs.Common.{refl}
use Rattle.std.specs.Fmt.{digits}
use Rattle.iol_wire.proofs.examples.requests.Goals as goal

pub returns-clause-page : goal.returns-clause-page
unfolding digits
returns-clause-page c = refl

pub returns-clause-isdu : goal.returns-clause-isdu
unfolding digits
returns-clause-isdu c = refl

pub returns-clause-no_octet : goal.returns-clause-no_octet
unfolding digits
returns-clause-no_octet c = refl

pub returns-clause-largest : goal.returns-clause-largest
unfolding digits
returns-clause-largest c = refl
