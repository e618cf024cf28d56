use Rattle.std.proofs.Common.{refl}
use Rattle.std.specs.Fmt.{digits}
use Rattle.iol_live.proofs.examples.receipts.Goals as goal

pub returns : goal.returns
unfolding digits
returns c = refl
