-- Whole numbers that are a geometry.
use Rattle.std.specs.Prelude.{◌≡◌, ℤ, pos}
use Rattle.iol_journal.specs.Geometry.{Geometry, IsGeometry}

-- two whole numbers are the ports and slots of a geometry (format, Disk layout)
abbrev pub HasGeometry : ℤ → ℤ → Type 0
HasGeometry ports slots = (g : Geometry) × IsGeometry g × (ports ≡ pos g.ports) × (slots ≡ pos g.slots)
