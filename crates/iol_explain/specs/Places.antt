-- The contents of the sectors of a journal's disk.
use Rattle.std.specs.Prelude.{ℕ, ◌+◌, ◌-◌, ◌*◌, ◌/◌, ◌%◌, ◌==◌, nat_lt, Bool, true, false, if◌then◌else◌, List, ◌++◌, codes}
use Rattle.std.specs.Fmt.{decimal}
use Rattle.iol_journal.specs.Layout.{Layout, gate_at, record_sectors, total}
use Rattle.iol_journal.specs.Area.{Area}
use Rattle.iol_journal.specs.Area.TheVariants.{A, B}
use Rattle.iol_explain.specs.declared.place.SectorUse.{SectorUse}
use Rattle.iol_explain.specs.declared.place.SectorUse.TheVariants.{Geometry, DiskGate, AreaGate, Header, Record, SlotGate, Body, Unused}
use Rattle.iol_explain.specs.declared.place.SectorUse.TheVariants.{Behind}

-- what the sector at this offset after the records of an area holds: a slot is a gate and 16 sectors of a body (format, Disk layout)
abbrev pub place_in_slot : Area → ℕ → SectorUse
place_in_slot area offset =
    if offset % 17 == 0 then SlotGate area (offset / 17 + 1) else Body area (offset / 17 + 1)

-- what the sector at this offset in an area holds: its gate, its header, the ports' records, the slots, and then nothing (format, Disk
-- layout)
abbrev pub place_in_area : Layout → Area → ℕ → SectorUse
place_in_area layout area offset =
    if offset == 0 then AreaGate area
    else if offset == 1 then Header area
    else if nat_lt offset (2 + record_sectors layout) then Record area ((offset - 2) / layout.port_sectors + 1)
    else if nat_lt offset (2 + record_sectors layout + 17 * layout.slots) then place_in_slot area (offset - 2 - record_sectors layout)
    else Unused area

-- what a sector holds: the geometry, the gate of the disk, area A, area B, and then nothing of the journal (format, Disk layout)
abbrev pub place_at : Layout → ℕ → SectorUse
place_at layout sector =
    if sector == 0 then Geometry
    else if sector == 1 then DiskGate
    else if nat_lt sector (gate_at layout B) then place_in_area layout A (sector - gate_at layout A)
    else if nat_lt sector (total layout) then place_in_area layout B (sector - gate_at layout B)
    else Behind

-- a place holds a gate (format, Disk layout)
abbrev pub is_gate : SectorUse → Bool
is_gate DiskGate = true
is_gate (AreaGate area) = true
is_gate (SlotGate area slot) = true
is_gate place = false

-- the letter of an area (format, Disk layout)
abbrev pub area_name : Area → List ℕ
area_name A = codes "A"
area_name B = codes "B"

-- a place in words (format, Explained runs)
abbrev pub place_text : SectorUse → List ℕ
place_text Geometry = codes "geometry"
place_text DiskGate = codes "gate of the disk"
place_text (AreaGate area) = codes "gate of area " ++ area_name area
place_text (Header area) = codes "header of area " ++ area_name area
place_text (Record area port) = codes "record of port " ++ (decimal port ++ (codes " in area " ++ area_name area))
place_text (SlotGate area slot) = codes "gate of slot " ++ (decimal slot ++ (codes " in area " ++ area_name area))
place_text (Body area slot) = codes "body of slot " ++ (decimal slot ++ (codes " in area " ++ area_name area))
place_text (Unused area) = codes "behind the slots of area " ++ area_name area
place_text Behind = codes "behind the journal"
