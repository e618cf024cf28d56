-- An empty journal, as a format writes it.
use Rattle.std.specs.Prelude.{◌≡◌, true, false, Some}
use Rattle.iol_types.specs.State.{empty_state}
use Rattle.iol_record.specs.declared.version.Version.{Version}
use Rattle.iol_disk.specs.Content.{Image}
use Rattle.iol_disk.specs.Gate.{is_open}
use Rattle.iol_layout.specs.Geometry.{Geometry, IsGeometry, geometry_of}
use Rattle.iol_layout.specs.Layout.{laid_out, gate_at}
use Rattle.iol_layout.specs.declared.area.Area.TheVariants.{A, B}
use Rattle.iol_layout.specs.declared.geometry.TheConstants.{GEOMETRY}
use Rattle.iol_layout.proofs.OtherArea.{IsWhole}
use Rattle.iol_journal.specs.Formatting.{first_header}

-- the geometry is written; area A is open and area B is closed
pub record HasAreas (version : Version) (g : Geometry) (image : Image) : Type 0 where
  pub geometry : geometry_of (image GEOMETRY) ≡ Some g
  pub is : IsGeometry g
  pub a_open : is_open (image (gate_at (laid_out version g) A)) ≡ true
  pub b_closed : is_open (image (gate_at (laid_out version g) B)) ≡ false

-- after the gate of the disk there is an empty journal, in area A
pub record IsEmptyJournal (version : Version) (g : Geometry) (image : Image) : Type 0 where
  pub areas : HasAreas version g image
  pub whole : IsWhole (laid_out version g) A (first_header version) (empty_state g.ports) image
