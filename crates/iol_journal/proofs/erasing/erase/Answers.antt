use Rattle.iol_journal.proofs.Erased.{erasure_leaves, erased}
use Rattle.iol_journal.proofs.erasing.erase.Goals as goal

pub returns-clause-any_moment : goal.returns-clause-any_moment
returns-clause-any_moment g c = erasure_leaves _ _ c.close_disk.result c.close_disk.ensures

pub returns-clause-done : goal.returns-clause-done
returns-clause-done g c = erased _ _ c.close_disk.result c.close_disk.ensures

pub returns-clause-size : goal.returns-clause-size
returns-clause-size g c = (erasure_leaves _ _ c.close_disk.result c.close_disk.ensures).sectors
