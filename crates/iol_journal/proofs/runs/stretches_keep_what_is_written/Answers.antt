use Rattle.iol_journal.proofs.StretchLaws.{stretches_keep_what_is_written}
use Rattle.iol_journal.proofs.runs.stretches_keep_what_is_written.Goals as goal

pub returns : goal.returns
returns c = stretches_keep_what_is_written
