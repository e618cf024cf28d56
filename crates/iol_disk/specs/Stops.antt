-- A power stop of a disk in memory.
use Rattle.std.specs.Prelude.{◌≡◌, ◌%◌, ◌==◌, if◌then◌else◌, ℕ, List, [], Option, Some, None, replicate, length, EachIndex, slice_index}
use Rattle.iol_disk.specs.Disk.{Disk}
use Rattle.iol_disk.specs.declared.pick.Pick.{Pick}
use Rattle.iol_disk.specs.declared.pick.Pick.TheVariants.{Old, New, Zero, Pattern}
use Rattle.iol_disk.specs.declared.disk.TheConstants.{SECTOR_OCTETS}

-- 512 octets of A5 5A, repeated (own)
pub record IsPattern (octets : List ℕ) : Type 0 where
  pub whole : length octets ≡ SECTOR_OCTETS
  pub each : EachIndex octets (λ k. slice_index octets k ≡ (if k % 2 == 0 then 0xA5 else 0x5A))

-- what a stop leaves of a sector with these durable octets and, if it was written since the last sync, newest ones
-- (own)
abbrev pub Leaves : Pick → List ℕ → Option (List ℕ) → List ℕ → Type 0
Leaves pick durable None left = left ≡ durable
Leaves Old durable (Some newest) left = left ≡ durable
Leaves New durable (Some newest) left = left ≡ newest
Leaves Zero durable (Some newest) left = left ≡ replicate SECTOR_OCTETS 0
Leaves Pattern durable (Some newest) left = IsPattern left

-- the disk after a stop: it holds what the stop left, nothing is pending, and its clock is at 0 (own)
pub record IsAfterStop (pick : Pick) (old new : Disk) : Type 0 where
  pub sectors : new.sectors ≡ old.sectors
  pub honest : new.honest ≡ old.honest
  pub failures : new.failures ≡ old.failures
  pub left : (i : ℕ) → Leaves pick (old.content.durable i) (old.content.written i) (new.content.durable i)
  pub settled : (i : ℕ) → new.content.written i ≡ None
  pub anew : new.content.past ≡ []
