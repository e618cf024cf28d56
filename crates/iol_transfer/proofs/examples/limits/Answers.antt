use Rattle.std.proofs.Common.{rules}
use Rattle.iol_transfer.proofs.examples.limits.Goals as goal

pub returns-clause-lists : goal.returns-clause-lists
returns-clause-lists c = search rules

pub returns-clause-requests : goal.returns-clause-requests
returns-clause-requests c = search rules
