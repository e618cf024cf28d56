use Rattle.iol_flush.proofs.Turns.{is_fit}
use Rattle.iol_flush.proofs.laws.is_fit.Goals as goal

pub returns : goal.returns
returns g c = is_fit
