use Rattle.std.proofs.Common.{rules}
use Rattle.iol_record.proofs.RecordLaws.{spells-blank}
use Rattle.iol_journal.proofs.formatting.first_area.Goals as goal

pub of-requires-2-clause-spelled : goal.of-requires-2-clause-spelled
of-requires-2-clause-spelled c = rw c.in_ok-state.ensures.empty (spells-blank c.of.result.version c.ports.result)

pub returns : goal.returns
returns c = search rules
