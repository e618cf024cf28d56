use Rattle.iol_journal.proofs.RunLaws.{accepts}
use Rattle.iol_journal.proofs.runs.accepts.Goals as goal

pub returns : goal.returns
returns c = accepts
