use Rattle.std.proofs.Common.{rules}
use Rattle.iol_transfer.proofs.command.DsCommand.request.Goals as goal

pub returns : goal.returns
returns c = search rules
