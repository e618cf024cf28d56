use Rattle.std.proofs.Common.{rules}
use Rattle.iol_link.proofs.page.Page.min_cycle_tenths.Goals as goal

pub returns-in-2 : goal.returns-in-2
returns-in-2 c = search rules
