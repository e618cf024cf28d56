use Rattle.iol_record.proofs.RecordLaws.{spells-blank}
use Rattle.iol_handed.proofs.handed_format.HandedFormat.new.Goals as goal

pub of-requires-clause-spelled : goal.of-requires-clause-spelled
of-requires-clause-spelled c = rw c.in_ok-state.ensures.empty (spells-blank c.of-layout.result.version c.ports.result)
