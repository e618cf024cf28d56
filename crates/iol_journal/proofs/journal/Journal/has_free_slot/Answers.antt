use Rattle.std.proofs.Common.{rules}
use Rattle.iol_journal.proofs.journal.Journal.has_free_slot.Goals as goal

pub returns-clause-free : goal.returns-clause-free
returns-clause-free g c = search rules
