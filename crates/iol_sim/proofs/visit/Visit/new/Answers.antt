use Rattle.std.proofs.Common.{rules}
use Rattle.iol_sim.proofs.visit.Visit.new.Goals as goal

pub returns : goal.returns
returns c = search rules
