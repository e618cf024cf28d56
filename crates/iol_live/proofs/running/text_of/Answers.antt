use Rattle.std.proofs.Common.{rules}
use Rattle.iol_live.proofs.running.text_of.Goals as goal

pub returns-clause-text : goal.returns-clause-text
returns-clause-text g c = search rules
