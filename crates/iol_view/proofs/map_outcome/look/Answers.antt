use Rattle.std.proofs.Common.{rules}
use Rattle.iol_view.proofs.map_outcome.look.Goals as goal

pub returns-in-Ok-clause-told : goal.returns-in-Ok-clause-told
returns-in-Ok-clause-told g c = (c.in-Ok.found.state, rw c.in-Ok.is at c.show_disk-recovered.ensures.found)

pub returns-in-Err-Damaged-clause-told : goal.returns-in-Err-Damaged-clause-told
returns-in-Err-Damaged-clause-told g c = search rules

pub returns-in-Err-Damaged-clause-cause : goal.returns-in-Err-Damaged-clause-cause
returns-in-Err-Damaged-clause-cause g c = search rules
