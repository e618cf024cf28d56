use Rattle.std.proofs.Common.{rules}
use Rattle.iol_link.proofs.examples.connections.Goals as goal

pub returns-clause-lost : goal.returns-clause-lost
returns-clause-lost c = search rules

pub returns-clause-answered : goal.returns-clause-answered
returns-clause-answered c = search rules
