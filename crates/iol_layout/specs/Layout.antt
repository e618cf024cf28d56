-- Where everything is on a disk (docs/FORMATS.md, "Disk layout").
use Rattle.std.specs.Prelude.{◌≡◌, ℕ, ◌+◌, ◌-◌, ◌*◌, ◌/◌, Bool}
use Rattle.iol_record.specs.declared.version.Version.{Version}
use Rattle.iol_record.specs.declared.version.Version.TheVariants.{One, Two}
use Rattle.iol_record.specs.Record.{newest, is_newest}
use Rattle.iol_layout.specs.Geometry.{Geometry, IsGeometry, given_up}
use Rattle.iol_disk.specs.declared.slot.TheConstants.{BODY_SECTORS}
use Rattle.iol_layout.specs.declared.geometry.TheConstants.{PORT_SECTORS, PORT_SECTORS_OF_TWO}
use Rattle.iol_layout.specs.declared.area.Area.{Area}
use Rattle.iol_layout.specs.declared.area.Area.TheVariants.{A, B}

-- the other one of the two areas (format, Disk layout)
abbrev pub other : Area → Area
other A = B
other B = A

-- how an area is laid out: the version in which its records are encoded, its ports with the sectors of a port's record,
-- its slots, and the unused sectors after them (format, Disk layout)
pub record Layout : Type 0 where
  pub version : Version
  pub ports : ℕ
  pub port_sectors : ℕ
  pub slots : ℕ
  pub spare_sectors : ℕ

-- the number of sectors of a port's record in a version (format, Disk layout)
abbrev pub port_sectors_of : Version → ℕ
port_sectors_of One = PORT_SECTORS
port_sectors_of Two = PORT_SECTORS_OF_TWO

-- the number of unused sectors of an area: what the larger records of its ports leave of the slots given up (format,
-- Disk layout)
abbrev pub spare_of : Version → ℕ → ℕ
spare_of One ports = 0
spare_of Two ports = (1 + BODY_SECTORS) * given_up Two ports - (PORT_SECTORS_OF_TWO - PORT_SECTORS) * ports

-- the layout in a version, for a number of ports and of slots that are kept (format, Disk layout)
abbrev pub placed : Version → ℕ → ℕ → Layout
placed version ports slots = record {
  version = version;
  ports = ports;
  port_sectors = port_sectors_of version;
  slots = slots;
  spare_sectors = spare_of version ports;
}

-- the number of slots that an area of a geometry keeps in a version (format, Disk layout)
abbrev pub kept_slots : Version → Geometry → ℕ
kept_slots One g = g.slots
kept_slots Two g = g.slots - given_up Two g.ports

-- the layout of a geometry in a version: the place and the size of an area are the same in both (format, Disk layout)
abbrev pub laid_out : Version → Geometry → Layout
laid_out version g = placed version g.ports (kept_slots version g)

-- the geometry that has this layout (format, Disk layout)
abbrev pub geometry_for : Layout → Geometry
geometry_for layout = record { ports = layout.ports; slots = layout.slots + given_up layout.version layout.ports }

-- the layout of a geometry in the version that is written (format, Disk layout)
abbrev pub layout_of : Geometry → Layout
layout_of g = laid_out newest g

-- this is the layout of a geometry in its version (own)
pub record IsLayout (layout : Layout) : Type 0 where
  pub geometry : Geometry
  pub is : IsGeometry geometry
  pub so : layout ≡ laid_out layout.version geometry

-- the layout of the same geometry in the version that is written (format, Disk layout)
abbrev pub renewed_from : Version → Layout → Layout
renewed_from One layout = placed Two layout.ports (layout.slots - given_up Two layout.ports)
renewed_from Two layout = layout

abbrev pub renewed : Layout → Layout
renewed layout = renewed_from layout.version layout

-- whether a layout is in the version that is written (own)
abbrev pub is_renewed : Layout → Bool
is_renewed layout = is_newest layout.version

-- the number of sectors of the records of all ports (format, Disk layout)
abbrev pub record_sectors : Layout → ℕ
record_sectors layout = layout.port_sectors * layout.ports

-- the number of sectors of an area: a gate, a header, the ports' records, slots of a gate and a body, and unused sectors
-- (format, Disk layout)
abbrev pub area_sectors : Layout → ℕ
area_sectors layout = 2 + layout.port_sectors * layout.ports + (1 + BODY_SECTORS) * layout.slots + layout.spare_sectors

-- the number of sectors of a journal: the geometry, the disk's gate, and both areas (format, Disk layout)
abbrev pub total : Layout → ℕ
total layout = 2 + 2 * area_sectors layout

-- the first sector of an area, which is its gate (format, Disk layout)
abbrev pub gate_at : Layout → Area → ℕ
gate_at layout A = 2
gate_at layout B = 2 + area_sectors layout

-- the sector of an area's header, after its gate (format, Disk layout)
abbrev pub header_at : Layout → Area → ℕ
header_at layout a = gate_at layout a + 1

-- the first sector of a port's record; ports are counted from 0 (format, Disk layout)
abbrev pub port_at : Layout → Area → ℕ → ℕ
port_at layout a p = gate_at layout a + 2 + layout.port_sectors * p

-- the sector of a slot's gate; slots are counted from 0 (format, Disk layout)
abbrev pub slot_at : Layout → Area → ℕ → ℕ
slot_at layout a k = gate_at layout a + 2 + layout.port_sectors * layout.ports + (1 + BODY_SECTORS) * k

-- the sector at which sector j of the body of a batch that begins in a slot is; the gates of further slots are skipped, and
-- sectors are counted from 0 (format, Slots)
abbrev pub body_at : Layout → Area → ℕ → ℕ → ℕ
body_at layout a k j = slot_at layout a k + 1 + j + j / BODY_SECTORS
