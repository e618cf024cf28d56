use Rattle.iol_disk.proofs.DiskLaws.{then_same}
use Rattle.iol_view.proofs.map_disk.map_disk.Goals as goal

pub returns-in-Ok-lines_of-clause-any_moment : goal.returns-in-Ok-lines_of-clause-any_moment
returns-in-Ok-lines_of-clause-any_moment g c = then_same _ _ _ _ c.look-disk.ensures.any_moment c.lines_of.ensures

pub returns-in-Err-lines_of-clause-any_moment : goal.returns-in-Err-lines_of-clause-any_moment
returns-in-Err-lines_of-clause-any_moment g c = then_same _ _ _ _ c.look-disk.ensures.any_moment c.lines_of.ensures
