use Rattle.std.proofs.Common.{rules}
use Rattle.iol_types.proofs.port_state.PortState.new.Goals as goal

pub invariant_of-result : goal.invariant_of-result
invariant_of-result c = search rules

pub returns-then-stand-clause-exactly : goal.returns-then-stand-clause-exactly
returns-then-stand-clause-exactly c = search rules
