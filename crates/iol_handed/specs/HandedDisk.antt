-- A disk that hands out its calls, as contracts see it.
use Rattle.std.specs.Prelude.{◌≡◌, ◌<◌, ℕ, Bool, IsTrue, List, Option, Some, None}
use Rattle.iol_disk.specs.Calls.{Call, write, sync}
use Rattle.iol_disk.specs.Content.{Image, reads}
use Rattle.iol_disk.specs.Disk.{Disk}
use Rattle.iol_handed.specs.Held.{Agree}
use Rattle.iol_handed.specs.Log.{content_of, logged}
use Rattle.iol_handed.specs.declared.handed_call.HandedCall.{HandedCall}
use Rattle.iol_handed.specs.declared.handed_call.HandedCall.TheVariants as handed
use Rattle.iol_handed.specs.declared.handed_disk.Last.{Last}
use Rattle.iol_handed.specs.declared.handed_disk.Last.TheVariants as last
use Rattle.iol_handed.specs.declared.held.HeldSector.{HeldSector}

-- a disk that hands out its calls, as contracts see it: its size, the sectors handed in until the first write, the sector that the last
-- failed read did not find. Then the call that was handed out last, the number of calls modulo 2^64, its failures, and its log (own)
pub record HandedDiskView : Type 0 where
  pub sectors : ℕ
  pub held : Option (List HeldSector)
  pub missing : Option ℕ
  pub call : Option Call
  pub calls : ℕ
  pub failures : ℕ
  pub log : List ℕ

-- a call that is handed out, as data (own)
abbrev pub call_of : HandedCall → Call
call_of (handed.Write sector octets) = write sector octets
call_of handed.Sync = sync

-- the call that was handed out last, if there is one, with the octets of a write (own)
abbrev pub handed_out : Last → List ℕ → Option Call
handed_out last.Nothing octets = None
handed_out (last.Write sector) octets = Some (write sector octets)
handed_out last.Sync octets = Some sync

-- the numbers of a log after one more call, if there is one (own)
abbrev pub logged_with : Option Call → List ℕ → List ℕ
logged_with None numbers = numbers
logged_with (Some call) numbers = logged call numbers

-- the flash of a disk once all calls that were handed out are made; it is honest if the caller reports truly (own)
abbrev pub handed_disk : Image → Bool → HandedDiskView → Disk
handed_disk image truthful disk = record {
  sectors = disk.sectors;
  honest = truthful;
  failures = disk.failures;
  content = content_of image disk.log;
}

-- a disk always has this: until the first write, the sectors that were handed in are as the flash held them, if the caller reports truly,
-- and the disk reads as the flash did (own)
abbrev pub IsHanded : Image → Bool → Option (List HeldSector) → List ℕ → Type 0
IsHanded image truthful None log = Unit {0}
IsHanded image truthful (Some held) log =
    (IsTrue truthful → Agree image held) × ((sector : ℕ) → reads (content_of image log) sector ≡ image sector)

-- if a call has failed, it was a read, and the disk has the sector that the read did not find (own)
abbrev pub HasMissed : (sectors failures : ℕ) → Option ℕ → Type 0
HasMissed sectors failures None = failures ≡ 0
HasMissed sectors failures (Some missing) = missing < sectors
