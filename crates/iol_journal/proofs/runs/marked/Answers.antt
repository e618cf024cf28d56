use Rattle.iol_journal.proofs.RunLaws.{marked}
use Rattle.iol_journal.proofs.runs.marked.Goals as goal

pub returns : goal.returns
returns c = marked
