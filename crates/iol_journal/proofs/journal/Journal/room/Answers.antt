use Rattle.std.proofs.Common.{rules}
use Rattle.iol_journal.proofs.journal.Journal.room.Goals as goal

pub returns-clause-room : goal.returns-clause-room
returns-clause-room g c = search rules

pub returns-clause-fits : goal.returns-clause-fits
returns-clause-fits g c = search rules
