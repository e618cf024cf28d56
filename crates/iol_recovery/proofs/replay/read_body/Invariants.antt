use Rattle.std.proofs.Common.{◌≡◌, ◌≤◌, ◌*◌, length, vec_capacity}
use Rattle.iol_disk.specs.Disk.{Same, Shows}
use Rattle.iol_disk.specs.declared.disk.TheConstants.{SECTOR_OCTETS}
use Rattle.iol_layout.specs.Octets.{octets_at}
use Rattle.iol_layout.proofs.ReachedBodies.{of_body}
use Rattle.iol_recovery.proofs.replay.read_body.Given as goal

abbrev pub invariant-loop-j : goal.invariant-loop-j
invariant-loop-j g l = record {
  room : vec_capacity l.fn.body ≤ vec_capacity l.body;
  same : Same (g.D.SectorDisk.disk l.fn.disk) (g.D.SectorDisk.disk l.disk);
  quiet : (g.D.SectorDisk.disk l.disk).failures ≡ (g.D.SectorDisk.disk l.fn.disk).failures;
  whole : length l.body.items ≡ SECTOR_OCTETS * l.j;
  read : Shows (g.D.SectorDisk.disk l.fn.disk) (λ image. l.body.items ≡ octets_at (of_body l.fn.slot.body image) 0 l.j);
}
