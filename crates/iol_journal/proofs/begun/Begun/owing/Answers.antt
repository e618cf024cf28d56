use Rattle.std.proofs.Common.{rules}
use Rattle.iol_journal.proofs.begun.Begun.owing.Goals as goal

pub returns : goal.returns
returns c = search rules
