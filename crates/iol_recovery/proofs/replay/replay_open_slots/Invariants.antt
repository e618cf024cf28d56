use Rattle.std.proofs.Common.{◌≡◌, ◌≤◌, ◌<◌, ◌+◌, ◌-◌, ◌*◌, ℕ, IsTrue, length, vec_capacity}
use Rattle.iol_disk.specs.Content.{reads}
use Rattle.iol_disk.specs.Disk.{Same}
use Rattle.iol_disk.specs.declared.disk.TheConstants.{SECTOR_OCTETS}
use Rattle.iol_disk.specs.declared.slot.TheConstants.{BODY_SECTORS}
use Rattle.iol_layout.specs.Meaning.{log_from}
use Rattle.iol_layout.specs.declared.header.TheConstants.{LAST_NUMBER}
use Rattle.iol_recovery.proofs.replay.replay_open_slots.Given as goal

abbrev pub invariant-loop-used : goal.invariant-loop-used
invariant-loop-used g l = record {
  same : Same (g.D.SectorDisk.disk l.fn.disk) (g.D.SectorDisk.disk l.disk);
  quiet : (g.D.SectorDisk.disk l.disk).failures ≡ (g.D.SectorDisk.disk l.fn.disk).failures;
  within : l.used ≤ l.fn.layout.slots;
  later : l.fn.header.base ≤ l.number;
  in_use : 0 < l.used → l.fn.header.base < l.number;
  bound : l.number ≤ LAST_NUMBER;
  room : BODY_SECTORS * SECTOR_OCTETS ≤ vec_capacity l.body;
  ports : length l.state ≡ length l.fn.state;
  front : IsTrue (g.D.SectorDisk.disk l.fn.disk).honest → (left : ℕ)
      → log_from l.fn.layout l.fn.area l.fn.header.epoch (reads (g.D.SectorDisk.disk l.fn.disk).content) l.used 0 left l.number l.state
      ≡ log_from l.fn.layout l.fn.area l.fn.header.epoch (reads (g.D.SectorDisk.disk l.fn.disk).content) 0 0 (left + l.used)
      l.fn.header.base l.fn.state;
  read : IsTrue (g.D.SectorDisk.disk l.fn.disk).honest → (left : ℕ) → left + l.used ≡ l.fn.layout.slots
      → log_from l.fn.layout l.fn.area l.fn.header.epoch (reads (g.D.SectorDisk.disk l.fn.disk).content) l.used 0 left l.number l.state
      ≡ log_from l.fn.layout l.fn.area l.fn.header.epoch (reads (g.D.SectorDisk.disk l.fn.disk).content) 0 0 l.fn.layout.slots
      l.fn.header.base l.fn.state;
}

abbrev pub decreases-loop-used : goal.decreases-loop-used
decreases-loop-used g l = l.fn.layout.slots - l.used
