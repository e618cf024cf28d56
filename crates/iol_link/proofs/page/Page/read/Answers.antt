use Rattle.std.proofs.Common.{rules}
use Rattle.iol_link.proofs.page.Page.read.Goals as goal

pub returns : goal.returns
returns c = search rules
