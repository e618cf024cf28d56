use Rattle.std.proofs.Common.{◌≡◌, ◌≤◌, ◌*◌, length, vec_capacity, Err}
use Rattle.iol_disk.specs.Disk.{Same, Shows}
use Rattle.iol_disk.specs.declared.disk.TheConstants.{SECTOR_OCTETS}
use Rattle.iol_record.specs.Reading.{port_record_at}
use Rattle.iol_record.specs.declared.fault.RecordFault.TheVariants.{Short}
use Rattle.iol_layout.specs.Octets.{octets_at}
use Rattle.iol_recovery.proofs.snapshot.read_by_sectors.Given as goal

abbrev pub invariant-loop-j : goal.invariant-loop-j
invariant-loop-j g l = record {
  room : vec_capacity l.fn.octets ≤ vec_capacity l.octets;
  whole : length l.octets.items ≡ SECTOR_OCTETS * l.j;
  same : Same (g.D.SectorDisk.disk l.fn.disk) (g.D.SectorDisk.disk l.disk);
  quiet : (g.D.SectorDisk.disk l.disk).failures ≡ (g.D.SectorDisk.disk l.fn.disk).failures;
  read : Shows (g.D.SectorDisk.disk l.fn.disk) (λ image. l.octets.items ≡ octets_at image l.fn.sector l.j);
  short : port_record_at l.fn.version l.octets.items ≡ Err Short;
}
