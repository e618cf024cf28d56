-- The layouts of a geometry.
use Rattle.std.proofs.Common.{◌≡◌, ℕ, Option, Some, None, refl, ap, add-zero}
use Rattle.std.specs.Option.{option_map}
use Rattle.iol_record.specs.declared.version.Version.TheVariants.{One, Two}
use Rattle.iol_journal.proofs.Layouts.{same_total}
use Rattle.iol_journal.specs.Geometry.{Geometry, IsGeometry}
use Rattle.iol_journal.specs.Layout.{Layout, laid_out, layout_of, geometry_for, total}

-- in version 1 an area has all its slots
pub whole : (g : Geometry) → geometry_for (laid_out One g) ≡ g
whole g = let with_slots : ℕ → Geometry = λ slots. record { ports = g.ports; slots = slots } in ap with_slots (add-zero g.slots)

-- a disk has the same size in the newest version as in version 1
pub newest_total : (g : Geometry) → IsGeometry g → total (layout_of g) ≡ total (laid_out One g)
newest_total g is = same_total Two g is

-- a layout that was read is that of the geometry that was read
pub numbers_of : (read : Option Geometry) (older : Layout) → option_map (laid_out One) read ≡ Some older
    → (g : Geometry) × (read ≡ Some g) × (older ≡ laid_out One g)
numbers_of None older is = absurd cc
numbers_of (Some g) older is = (g, refl, cc)
