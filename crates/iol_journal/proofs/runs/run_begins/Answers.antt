use Rattle.iol_journal.proofs.RunLaws.{run_begins}
use Rattle.iol_journal.proofs.runs.run_begins.Goals as goal

pub returns : goal.returns
returns c = run_begins
