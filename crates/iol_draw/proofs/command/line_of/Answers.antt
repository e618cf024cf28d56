use Rattle.std.proofs.Common.{rules}
use Rattle.iol_draw.proofs.command.line_of.Goals as goal

pub returns : goal.returns
returns c = search rules
