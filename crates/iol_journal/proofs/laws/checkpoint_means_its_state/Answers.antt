use Rattle.iol_journal.proofs.JournalLaws.{checkpoint_means_its_state}
use Rattle.iol_journal.proofs.laws.checkpoint_means_its_state.Goals as goal

pub returns : goal.returns
returns g c = checkpoint_means_its_state g.D.SectorDisk.disk
