-- A disk that was just made.
use Rattle.std.specs.Prelude.{◌≡◌, ◌<◌, ℕ, true, [], None, replicate}
use Rattle.iol_disk.specs.Disk.{Disk}
use Rattle.iol_disk.specs.declared.disk.TheConstants.{SECTOR_OCTETS}

-- a disk that was just made: this number of sectors of zeros, all durable (own)
pub record IsFresh (sectors : ℕ) (d : Disk) : Type 0 where
  pub sectors_are : d.sectors ≡ sectors
  pub honest : d.honest ≡ true
  pub failures : d.failures ≡ 0
  pub zeros : (i : ℕ) → i < sectors → d.content.durable i ≡ replicate SECTOR_OCTETS 0
  pub settled : (i : ℕ) → d.content.written i ≡ None
  pub anew : d.content.past ≡ []
