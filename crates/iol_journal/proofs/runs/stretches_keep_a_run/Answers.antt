use Rattle.iol_journal.proofs.StretchLaws.{stretches_keep_a_run}
use Rattle.iol_journal.proofs.runs.stretches_keep_a_run.Goals as goal

pub returns : goal.returns
returns c = stretches_keep_a_run
