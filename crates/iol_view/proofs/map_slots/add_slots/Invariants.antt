use Rattle.std.proofs.Common.{◌-◌}
use Rattle.iol_disk.specs.Disk.{Same}
use Rattle.iol_view.proofs.map_slots.add_slots.Given as goal

abbrev pub invariant-loop-place : goal.invariant-loop-place
invariant-loop-place g l = Same (g.D.SectorDisk.disk l.fn.disk) (g.D.SectorDisk.disk l.disk)

-- the number of slots that are left
abbrev pub decreases-loop-place : goal.decreases-loop-place
decreases-loop-place g l = l.fn.layout.slots - l.place
