use Rattle.std.proofs.Common.{rules}
use Rattle.iol_layout.proofs.geometry.Geometry.new.Goals as goal

pub given_up-requires : goal.given_up-requires
given_up-requires c = search rules

pub invariant_of-result : goal.invariant_of-result
invariant_of-result c = search rules

pub returns-clause-some : goal.returns-clause-some
returns-clause-some c = search rules
