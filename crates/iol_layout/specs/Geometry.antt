-- The numbers of ports and slots that determine a journal's layout.
use Rattle.std.specs.Prelude.{◌≤◌, ◌<◌, ◌==◌, ℕ, ◌+◌, ◌-◌, ◌*◌, ◌/◌, nat_eq, nat_le, Bool, ◌&&◌, if◌then◌else◌}
use Rattle.std.specs.Prelude.{List, ◌∷◌, ◌++◌, Option, Some, None}
use Rattle.std.specs.Int.{w8, w16, to_be_bytes}
use Rattle.std.specs.List.{starts_with}
use Rattle.iol_record.specs.declared.version.Version.{Version}
use Rattle.iol_record.specs.declared.version.Version.TheVariants.{One, Two}
use Rattle.iol_layout.specs.Octets.{number_at, padded}
use Rattle.iol_disk.specs.declared.slot.TheConstants.{BODY_SECTORS}
use Rattle.iol_layout.specs.declared.geometry.TheConstants.{MOST_PORTS, MOST_SLOTS, PORT_SECTORS, PORT_SECTORS_OF_TWO, GEOMETRY_MARK}

-- a geometry: the number of ports of a master, and the number of slots of each area (format, Disk layout)
pub record Geometry : Type 0 where
  pub ports : ℕ
  pub slots : ℕ

-- the numbers are in their ranges: 1 to 32 ports, 1 to 256 slots (format, Disk layout)
pub record IsInRange (g : Geometry) : Type 0 where
  pub some_port : 1 ≤ g.ports
  pub most_ports : g.ports ≤ MOST_PORTS
  pub some_slot : 1 ≤ g.slots
  pub most_slots : g.slots ≤ MOST_SLOTS

-- whether the numbers are in their ranges (format, Disk layout)
abbrev pub is_in_range : Geometry → Bool
is_in_range g = nat_le 1 g.ports && nat_le g.ports MOST_PORTS && nat_le 1 g.slots && nat_le g.slots MOST_SLOTS

-- the number of slots that an area gives up for the larger records of its ports: in version 2, enough for the further sectors
-- of all records (format, Disk layout)
abbrev pub given_up : Version → ℕ → ℕ
given_up One ports = 0
given_up Two ports = ((PORT_SECTORS_OF_TWO - PORT_SECTORS) * ports + BODY_SECTORS) / (1 + BODY_SECTORS)

-- a geometry: the numbers are in their ranges, and an area keeps a slot in version 2 (format, Disk layout)
pub record IsGeometry (g : Geometry) : Type 0 where
  pub in_range : IsInRange g
  pub keeps_slot : given_up Two g.ports < g.slots

-- the geometry that a sector holds, if it has the mark and the sectors of a body, and ports and slots are in their ranges
-- (format, Disk layout)
unfoldable pub geometry_of : List ℕ → Option Geometry
geometry_of octets =
    let g : Geometry = record { ports = number_at w8 5 octets; slots = number_at w16 6 octets } in
    if starts_with nat_eq octets GEOMETRY_MARK && (number_at w16 8 octets == BODY_SECTORS) && is_in_range g then Some g else None

-- the sector that holds a geometry: the mark, ports 1 octet, slots 2, sectors of a body 2, and zeros (format, Disk layout)
abbrev pub geometry_octets : Geometry → List ℕ
geometry_octets g = padded (GEOMETRY_MARK ++ (g.ports ∷ to_be_bytes w16 g.slots) ++ to_be_bytes w16 BODY_SECTORS)
