use Rattle.iol_journal.proofs.RunLaws.{checkpoint_stays}
use Rattle.iol_journal.proofs.runs.checkpoint_stays.Goals as goal

pub returns : goal.returns
returns c = checkpoint_stays
