use Rattle.std.proofs.Common.{◌≡◌, ◌≤◌, vec_capacity}
use Rattle.iol_disk.specs.Disk.{Same, Shows}
use Rattle.iol_layout.specs.Octets.{octets_at}
use Rattle.iol_recovery.proofs.snapshot.read_reached.Given as goal

abbrev pub invariant-loop-j : goal.invariant-loop-j
invariant-loop-j g l = record {
  room : vec_capacity l.fn.octets ≤ vec_capacity l.octets;
  same : Same (g.D.SectorDisk.disk l.fn.disk) (g.D.SectorDisk.disk l.disk);
  quiet : (g.D.SectorDisk.disk l.disk).failures ≡ (g.D.SectorDisk.disk l.fn.disk).failures;
  read : Shows (g.D.SectorDisk.disk l.fn.disk) (λ image. l.octets.items ≡ octets_at image l.fn.sector l.j);
}
