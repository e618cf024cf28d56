-- Sectors that were handed in.
use Rattle.std.specs.Prelude.{◌≡◌, ℕ, List, Some, slice_get, All}
use Rattle.iol_disk.specs.Content.{Image}
use Rattle.iol_handed.specs.declared.held.HeldSector.{HeldSector}

-- a sector was handed in with these octets (own)
abbrev pub IsHeld : List HeldSector → ℕ → List ℕ → Type 0
IsHeld held sector octets =
    (place : ℕ) × (one : HeldSector) × (slice_get held place ≡ Some one) × (one.sector ≡ sector) × (octets ≡ one.octets.value)

-- each sector that was handed in has the octets of an image (own)
abbrev pub Agree : Image → List HeldSector → Type 0
Agree image held = All (λ one. image one.sector ≡ one.octets.value) held
