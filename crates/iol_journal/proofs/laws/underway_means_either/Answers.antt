use Rattle.iol_journal.proofs.JournalLaws.{underway_means_either}
use Rattle.iol_journal.proofs.laws.underway_means_either.Goals as goal

pub returns : goal.returns
returns g c = underway_means_either g.D.SectorDisk.disk
