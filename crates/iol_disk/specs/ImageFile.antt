-- An image file as contracts see it.
use Rattle.std.specs.Prelude.{◌≡◌, ◌≤◌, ◌⊎◌, ◌/◌, ℕ, false, [], None}
use Rattle.iol_disk.specs.Content.{Content}
use Rattle.iol_disk.specs.Disk.{Disk}
use Rattle.iol_disk.specs.declared.disk.TheConstants.{SECTOR_OCTETS}
use Rattle.iol_disk.specs.declared.fault.DiskFault.TheVariants.{Read, Write, Sync}
use Rattle.iol_disk.specs.declared.image_fault.ImageFault.{ImageFault}
use Rattle.iol_disk.specs.declared.image_fault.ImageFault.TheVariants.{Open, InUse, Disk as OfDisk, Memory}
use Rattle.iol_disk.specs.declared.image_file.ImageFile.{ImageFile}

-- a placeholder for the content of a disk of which nothing is known; no promise depends on it (own)
abbrev pub unknown_content : Content
unknown_content = record { durable = λ i. []; written = λ i. None; past = [] }

-- an image file as contracts see it: not honest, and with as its sectors the whole ones of its octets (format, Image files)
abbrev pub file_disk : {F : Type 0} → ImageFile F → Disk
file_disk file = record {
  sectors = file.octets / SECTOR_OCTETS;
  honest = false;
  failures = file.failures;
  content = unknown_content;
}

-- the disk has the whole sectors of a length that its file reported (format, Image files)
abbrev pub HasTold : {F : Type 0} → (F → ℕ → Type 0) → ImageFile F → Type 0
HasTold tells opened = (octets : ℕ) × tells opened.file octets × ((file_disk opened).sectors ≡ octets / SECTOR_OCTETS)

-- the file reported at least the length that it had when it was made or opened, so it was not truncated by then (format, Image
-- files)
abbrev pub IsUncut : {F : Type 0} → (F → ℕ → Type 0) → ImageFile F → Type 0
IsUncut tells image = (octets : ℕ) × tells image.file octets × (image.octets ≤ octets)

-- nothing is known of the disk, and no call of it has failed (own)
pub record IsUnknown (d : Disk) : Type 0 where
  pub not_honest : d.honest ≡ false
  pub no_failure : d.failures ≡ 0

-- why a file is not opened or made: it cannot be, or out of memory (own)
abbrev pub IsUnopened : ImageFault → Type 0
IsUnopened fault = (fault ≡ Open) ⊎ (fault ≡ Memory)

-- why a file is not locked: it is open already, or the lock failed; also why it is not opened or made (own)
abbrev pub IsUnlocked : ImageFault → Type 0
IsUnlocked fault = (fault ≡ InUse) ⊎ IsUnopened fault

-- why a file is not made: it cannot be made or locked, or a write or a sync of the new file failed (own)
abbrev pub IsCreateFault : ImageFault → Type 0
IsCreateFault fault = IsUnlocked fault ⊎ ((fault ≡ OfDisk Write) ⊎ (fault ≡ OfDisk Sync))

-- why a file is not opened: it cannot be opened or locked, or its length cannot be read (own)
abbrev pub IsOpenFault : ImageFault → Type 0
IsOpenFault fault = IsUnlocked fault ⊎ (fault ≡ OfDisk Read)
