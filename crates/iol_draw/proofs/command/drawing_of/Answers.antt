use Rattle.std.proofs.Common.{rules}
use Rattle.iol_draw.proofs.command.drawing_of.Goals as goal

pub returns-clause-printed : goal.returns-clause-printed
returns-clause-printed c = search rules
