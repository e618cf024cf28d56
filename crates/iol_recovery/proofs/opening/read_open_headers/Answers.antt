use Rattle.std.proofs.Common.{rules}
use Rattle.iol_recovery.proofs.opening.read_open_headers.Goals as goal

pub returns-clause-read : goal.returns-clause-read
returns-clause-read g c = search rules
