-- The layouts of a geometry: areas have the same size in every version, so that gates and headers are in the same places.
use Rattle.std.proofs.Common.{◌≡◌, ◌≤◌, ◌<◌, ℕ, ◌+◌, ◌*◌, ◌==◌, true, nat_lt, if◌then◌else◌, Option, Some, None, Err, refl, sym}
use Rattle.std.proofs.Common.{◌∙◌, ap, subst, arith}
use Rattle.iol_record.specs.declared.version.Version.{Version}
use Rattle.iol_record.specs.declared.version.Version.TheVariants.{One, Two}
use Rattle.iol_record.specs.Record.{newest, is_newest}
use Rattle.iol_disk.specs.Content.{Image}
use Rattle.iol_disk.specs.Gate.{is_open}
use Rattle.iol_layout.specs.Geometry.{Geometry, IsGeometry, given_up}
use Rattle.iol_layout.specs.Header.{header_of, epochs_ahead, is_sound}
use Rattle.iol_layout.specs.Layout.{Layout, IsLayout, placed, kept_slots, laid_out, layout_of, geometry_for, renewed_from, renewed}
use Rattle.iol_layout.specs.Layout.{area_sectors}
use Rattle.iol_layout.specs.Layout.{is_renewed, total, gate_at}
use Rattle.iol_layout.specs.Meaning.{damaged, if_sound, header_in, in_use, greatest, in_use_in}
use Rattle.iol_layout.specs.declared.area.Area.{Area}
use Rattle.iol_layout.specs.declared.area.Area.TheVariants.{A, B}
use Rattle.iol_layout.specs.declared.header.Header.{Header}
use Rattle.iol_disk.specs.declared.slot.TheConstants.{BODY_SECTORS}
use Rattle.iol_layout.specs.declared.geometry.TheConstants.{PORT_SECTORS}

-- an area has the same number of sectors in every version
pub area_size : (version : Version) (ports slots : ℕ)
    → area_sectors (placed version ports slots) ≡ 2 + PORT_SECTORS * ports + (1 + BODY_SECTORS) * (slots + given_up version ports)
area_size One ports slots = omega arith
area_size Two ports slots = omega arith

-- the slots that an area keeps, and those that it gives up
pub kept-all : (version : Version) (g : Geometry) → IsGeometry g → kept_slots version g + given_up version g.ports ≡ g.slots
kept-all One g is = omega arith
kept-all Two g is = omega (arith, is.keeps_slot)

pub size-laid_out : (version : Version) (g : Geometry) → IsGeometry g
    → area_sectors (laid_out version g) ≡ 2 + PORT_SECTORS * g.ports + (1 + BODY_SECTORS) * g.slots
size-laid_out version g is = omega (arith, area_size version g.ports (kept_slots version g), kept-all version g is)

-- a disk has the same size in each version
pub same_total : (version : Version) (g : Geometry) → IsGeometry g → total (laid_out version g) ≡ total (laid_out One g)
same_total version g is = omega (arith, size-laid_out version g is, size-laid_out One g is)

-- areas of a layout are as large as those that are written for its geometry
pub size-of : (layout : Layout) (g : Geometry) → IsGeometry g → layout ≡ laid_out layout.version g
    → area_sectors (layout_of g) ≡ area_sectors layout
size-of layout g is so = size-laid_out newest g is ∙ sym (ap area_sectors so ∙ size-laid_out layout.version g is)

-- the geometry of a layout is in its ranges, and keeps a slot in version 2
pub geometry_is : (layout : Layout) → IsLayout layout → IsGeometry (geometry_for layout)
geometry_is layout is =
    let all : geometry_for (laid_out layout.version is.geometry) ≡ is.geometry =
    ap (λ (slots : ℕ). record { ports = is.geometry.ports; slots = slots }) (kept-all layout.version is.geometry is.is) in
    subst IsGeometry (sym (ap geometry_for is.so ∙ all)) is.is

-- a layout is renewed in areas of the same size
pub size-renewed : (layout : Layout) → IsLayout layout → area_sectors (renewed layout) ≡ area_sectors layout
size-renewed layout is = by_version layout.version is.so
  where
    by_version : (version : Version) → layout ≡ laid_out version is.geometry
        → area_sectors (renewed_from version layout) ≡ area_sectors layout
    by_version One so =
        ap (λ (l : Layout). area_sectors (renewed_from One l)) so ∙ size-laid_out Two is.geometry is.is
        ∙ sym (ap area_sectors so ∙ size-laid_out One is.geometry is.is)
    by_version Two so = refl

-- a layout that is renewed already is unchanged
pub renewed-newest : (layout : Layout) → layout.version ≡ newest → renewed layout ≡ layout
renewed-newest layout is = ap (λ (version : Version). renewed_from version layout) is

pub renewed-same : (layout : Layout) → is_renewed layout ≡ true → renewed layout ≡ layout
renewed-same layout is = by_version layout.version is
  where
    by_version : (version : Version) → is_newest version ≡ true → renewed_from version layout ≡ layout
    by_version One is = absurd cc
    by_version Two is = refl

pub renewed-so : (layout : Layout) (g : Geometry) → layout ≡ laid_out layout.version g
    → renewed layout ≡ laid_out (renewed layout).version g
renewed-so layout g so = by_version layout.version so
  where
    by_version : (version : Version) → layout ≡ laid_out version g
        → renewed_from version layout ≡ laid_out (renewed_from version layout).version g
    by_version One in_one = ap (renewed_from One) in_one
    by_version Two in_two = so

pub renewed-is : (layout : Layout) → IsLayout layout → IsLayout (renewed layout)
renewed-is layout is = record { geometry = is.geometry; is = is.is; so = renewed-so layout is.geometry is.so }

-- a renewed layout is in the version that is written
pub renewed-version : (layout : Layout) → (renewed layout).version ≡ newest
renewed-version layout = by_version layout.version refl
  where
    by_version : (version : Version) → layout.version ≡ version → (renewed_from version layout).version ≡ newest
    by_version One is = refl
    by_version Two is = is

-- a layout counts as renewed after that
pub renewed-renewed : (layout : Layout) → is_renewed (renewed layout) ≡ true
renewed-renewed layout = by_version layout.version refl
  where
    by_version : (version : Version) → layout.version ≡ version → is_renewed (renewed_from version layout) ≡ true
    by_version One is = refl
    by_version Two is = ap is_newest is

pub renewed-twice : (layout : Layout) → renewed (renewed layout) ≡ renewed layout
renewed-twice layout = renewed-same (renewed layout) (renewed-renewed layout)

-- a renewed layout keeps a slot, and has the same ports
pub renewed-some : (layout : Layout) → IsLayout layout → 1 ≤ (renewed layout).slots
renewed-some layout is = by_version layout.version is.so
  where
    by_version : (version : Version) → layout ≡ laid_out version is.geometry → 1 ≤ (renewed_from version layout).slots
    by_version One so = omega (arith, is.is.keeps_slot, ap (λ (l : Layout). l.slots) so, ap (λ (l : Layout). l.ports) so)
    by_version Two so = omega (arith, is.is.keeps_slot, ap (λ (l : Layout). l.slots) so)

pub renewed-ports : (layout : Layout) → (renewed layout).ports ≡ layout.ports
renewed-ports layout = by_version layout.version
  where
    by_version : (version : Version) → (renewed_from version layout).ports ≡ layout.ports
    by_version One = refl
    by_version Two = refl

-- the next epoch of a renewed layout may begin after a command, and that of an older one at once
pub one-ahead : (layout : Layout) (epoch number : ℕ) → epoch ≤ number + epochs_ahead layout.version
    → (is_renewed layout ≡ true → epoch < number + epochs_ahead layout.version)
    → epoch + 1 ≤ number + epochs_ahead (renewed layout).version
one-ahead layout epoch number begun used = by_version layout.version refl
  where
    by_version : (version : Version) → layout.version ≡ version
        → epoch + 1 ≤ number + epochs_ahead (renewed_from version layout).version
    by_version One is = omega (arith, begun, ap epochs_ahead is)
    by_version Two is = omega (arith, used (ap is_newest is))

-- ---- where areas have the same size

module _ (one other : Layout) (size : area_sectors one ≡ area_sectors other) where
  pub gate-same : (a : Area) → gate_at one a ≡ gate_at other a
  gate-same A = refl
  gate-same B = omega (arith, size)

  pub header_in-same : (image : Image) (a : Area) → header_in one image a ≡ header_in other image a
  header_in-same image a =
      ap (λ (gate : ℕ). if is_open (image gate) then Some (header_of (image (gate + 1))) else None) (gate-same a)

  greatest-same : (x y : Option Header) → greatest one x y ≡ greatest other x y
  greatest-same None None = refl
  greatest-same (Some x) None = refl
  greatest-same None (Some y) = ap (λ (gate : ℕ). if_sound (is_sound y) (gate + 1) (record { area = B; header = y })) (gate-same B)
  greatest-same (Some x) (Some y) =
      ap (λ (gate : ℕ).
      if x.epoch == y.epoch then Err (damaged (gate + 1))
      else if nat_lt x.epoch y.epoch then if_sound (is_sound y) (gate + 1) (record { area = B; header = y })
      else in_use other A x) (gate-same B)

  pub in_use_in-same : (image : Image) → in_use_in one image ≡ in_use_in other image
  in_use_in-same image =
      ap (λ (x : Option Header). greatest one x (header_in one image B)) (header_in-same image A)
      ∙ ap (greatest one (header_in other image A)) (header_in-same image B)
      ∙ greatest-same (header_in other image A) (header_in other image B)
