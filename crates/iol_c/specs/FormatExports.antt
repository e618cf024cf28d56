-- The calls of a format.
use Rattle.std.specs.Prelude.{◌≡◌, ◌++◌, ℕ, true, List, Option, None, Some}
use Rattle.iol_disk.specs.Calls.{Call, write, sync}
use Rattle.iol_journal.specs.Erasing.{erase_calls}
use Rattle.iol_journal.specs.Orders.{format_calls}
use Rattle.iol_layout.specs.Geometry.{Geometry, IsGeometry}
use Rattle.iol_record.specs.Record.{newest}
use Rattle.iol_c.specs.Asks.{IfValid}
use Rattle.iol_c.specs.declared.structs.DiskCall.{DiskCall}

-- the result is this geometry if it is valid, and else none (own)
abbrev pub IsGeometryOf : Geometry → Option Geometry → Type 0
IsGeometryOf geometry None = IsGeometry geometry → ⊥
IsGeometryOf geometry (Some made) = IsGeometry geometry × (made ≡ geometry)

-- a fact holds of the geometry for this number of ports and of slots, or another one if there is no such geometry (own)
abbrev pub OfGeometry : ℕ → ℕ → Type 0 → (Geometry → Type 0) → Type 0
OfGeometry ports slots Refused Fact =
    (made : Option Geometry) × IsGeometryOf (record { ports = ports; slots = slots }) made × IfValid made Refused Fact

-- the calls of an erasure, and those of a format after it (own)
abbrev pub erase_then_format : Geometry → List Call
erase_then_format geometry = erase_calls true ++ format_calls newest geometry

-- a call is handed out, or there is no call (own)
abbrev pub HandsOut : Option Call → DiskCall → DiskCall → ℕ → Type 0
HandsOut None old new code = (code ≡ 8) × (new ≡ old)
HandsOut (Some (write sector octets)) old new code = (code ≡ 13) × (new ≡ record { sector = sector; octets = octets })
HandsOut (Some sync) old new code = (code ≡ 11) × (new ≡ old)

-- memory ran out, and nothing is written down (own)
abbrev pub OutOfMemory : DiskCall → DiskCall → ℕ → Type 0
OutOfMemory old new code = (code ≡ 3) × (new ≡ old)
