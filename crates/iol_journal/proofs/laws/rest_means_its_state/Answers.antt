use Rattle.iol_journal.proofs.JournalLaws.{rest_means_its_state}
use Rattle.iol_journal.proofs.laws.rest_means_its_state.Goals as goal

pub returns : goal.returns
returns c = rest_means_its_state
