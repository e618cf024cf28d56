use Rattle.std.proofs.Common.{rules}
use Rattle.iol_types.proofs.command.Command.copy.Goals as goal

pub returns-in-Clear-clause-memory : goal.returns-in-Clear-clause-memory
returns-in-Clear-clause-memory c = search rules
