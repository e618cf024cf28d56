use Rattle.std.proofs.Common.{◌≡◌, ◌≤◌, ◌+◌, ◌*◌, ℕ, length, take, IsTrue, vec_capacity}
use Rattle.iol_disk.specs.Content.{reads}
use Rattle.iol_disk.specs.Disk.{Same}
use Rattle.iol_disk.specs.declared.disk.TheConstants.{SECTOR_OCTETS}
use Rattle.iol_layout.specs.declared.geometry.TheConstants.{PORT_SECTORS}
use Rattle.iol_layout.specs.Meaning.{ports_from}
use Rattle.iol_recovery.proofs.Snapshots.{with_front}
use Rattle.iol_recovery.proofs.snapshot.read_records.Given as goal

abbrev pub invariant-loop-place : goal.invariant-loop-place
invariant-loop-place g l = record {
  same : Same (g.D.SectorDisk.disk l.fn.disk) (g.D.SectorDisk.disk l.disk);
  quiet : (g.D.SectorDisk.disk l.disk).failures ≡ (g.D.SectorDisk.disk l.fn.disk).failures;
  room : PORT_SECTORS * SECTOR_OCTETS ≤ vec_capacity l.octets;
  ports : length l.state ≡ l.fn.layout.ports;
  read : IsTrue (g.D.SectorDisk.disk l.fn.disk).honest → (left : ℕ)
      → with_front (take l.place l.state) (ports_from l.fn.layout l.fn.area (reads (g.D.SectorDisk.disk l.fn.disk).content) l.place left)
      ≡ ports_from l.fn.layout l.fn.area (reads (g.D.SectorDisk.disk l.fn.disk).content) 0 (l.place + left);
}
