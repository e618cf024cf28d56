-- The octets of an image, the numbers in them, and octets as they are written to sectors.
use Rattle.std.specs.Prelude.{ℕ, zero, suc, ◌+◌, ◌-◌, ◌*◌, ◌/◌, List, [], ◌++◌, length, replicate, take, drop, slice_range}
use Rattle.std.specs.Int.{Width, byte_len, from_be_bytes}
use Rattle.iol_disk.specs.Content.{Image}
use Rattle.iol_disk.specs.declared.disk.TheConstants.{SECTOR_OCTETS}

-- the number of this width at a place of some octets, most significant octet first (format, Disk layout)
abbrev pub number_at : Width → ℕ → List ℕ → ℕ
number_at width place octets = from_be_bytes width (take (byte_len width) (drop place octets))

-- the octets of a number of sectors from the first one on (format, Disk layout)
unfoldable pub octets_at : Image → ℕ → ℕ → List ℕ
octets_at image first zero = []
octets_at image first (suc n) = image first ++ octets_at image (first + 1) n

-- the number of sectors that a number of octets reaches (format, Disk layout)
abbrev pub sectors_reached : ℕ → ℕ
sectors_reached octets = (octets + (SECTOR_OCTETS - 1)) / SECTOR_OCTETS

-- octets, with zeros after them to the end of the last sector that they reach (format, Disk layout)
unfoldable pub padded : List ℕ → List ℕ
padded octets = octets ++ replicate (SECTOR_OCTETS * sectors_reached (length octets) - length octets) 0

-- sector j of octets that fill whole sectors; sectors are counted from 0 (format, Disk layout)
abbrev pub sector_of : List ℕ → ℕ → List ℕ
sector_of octets j = slice_range octets (SECTOR_OCTETS * j) (SECTOR_OCTETS * (j + 1))
