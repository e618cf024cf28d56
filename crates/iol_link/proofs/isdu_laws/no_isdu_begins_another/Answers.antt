use Rattle.iol_link.proofs.Lengths.{nothing_follows}
use Rattle.iol_link.proofs.isdu_laws.no_isdu_begins_another.Goals as goal

pub returns : goal.returns
returns c = nothing_follows
