use Rattle.std.proofs.Common.{rules}
use Rattle.iol_layout.proofs.body.Head.fits.Goals as goal

pub returns-then-from-le-MOST_COMMANDS : goal.returns-then-from-le-MOST_COMMANDS
returns-then-from-le-MOST_COMMANDS c = search rules
