use Rattle.std.proofs.Common.{rules}
use Rattle.iol_commands.proofs.run.empty_disk.Goals as goal

pub returns-clause-empty : goal.returns-clause-empty
returns-clause-empty c = search rules
