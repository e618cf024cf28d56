use Rattle.std.proofs.Common.{rules}
use Rattle.iol_link.proofs.examples.octets_of_a_page.Goals as goal

pub returns : goal.returns
returns c = search rules
