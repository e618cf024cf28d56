use Rattle.iol_journal.proofs.JournalLaws.{following_batch_wants_a_slot}
use Rattle.iol_journal.proofs.laws.following_batch_wants_a_slot.Goals as goal

pub returns : goal.returns
returns c = following_batch_wants_a_slot
