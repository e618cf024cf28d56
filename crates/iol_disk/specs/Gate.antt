-- Gates, and the bodies after them.
use Rattle.std.specs.Prelude.{◌≡◌, ◌<◌, ◌+◌, ◌/◌, ℕ, Bool, false, IsTrue, List, ◌++◌, replicate, nat_eq, None}
use Rattle.std.specs.List.{starts_with}
use Rattle.iol_disk.specs.Content.{EachImage}
use Rattle.iol_disk.specs.Disk.{Disk}
use Rattle.iol_disk.specs.declared.slot.TheConstants.{GATE_MARK, BODY_SECTORS}
use Rattle.iol_disk.specs.declared.disk.TheConstants.{SECTOR_OCTETS}

-- a gate is open exactly if its sector begins with the mark; the rest of the sector does not matter (format, Gates)
unfoldable pub is_open : List ℕ → Bool
is_open octets = starts_with nat_eq octets GATE_MARK

-- the two sectors that are written as a gate: the mark and zeros, or zeros (format, Gates)
unfoldable pub open_gate : List ℕ
open_gate = GATE_MARK ++ replicate 504 0

unfoldable pub closed_gate : List ℕ
closed_gate = replicate SECTOR_OCTETS 0

-- whatever a stop of an honest disk may leave now, this gate is closed (own)
abbrev pub IsShut : ℕ → Disk → Type 0
IsShut gate d = IsTrue d.honest → EachImage d.content (λ image. is_open (image gate) ≡ false)

-- sector j of a body that begins here and may extend over further slots, whose gates are skipped; sectors are counted
-- from 0 (format, Slots)
abbrev pub body_sector : ℕ → ℕ → ℕ
body_sector first j = first + j + j / BODY_SECTORS

-- on an honest disk, none of the first `count` sectors of a body was written since the last sync: what they hold is durable
-- (own)
abbrev pub AreSynced : ℕ → ℕ → Disk → Type 0
AreSynced first count d = IsTrue d.honest → (j : ℕ) → j < count → d.content.written (body_sector first j) ≡ None
