-- The results of a format, and what it leaves.
use Rattle.std.specs.Prelude.{◌≡◌, ◌<◌, ◌⊎◌, ◌+◌, ℕ, IsTrue, Some, Ok, Err}
use Rattle.iol_types.specs.State.{empty_state}
use Rattle.iol_record.specs.declared.version.Version.{Version}
use Rattle.iol_disk.specs.Content.{Image, EachImage, IsImageSince, clock}
use Rattle.iol_disk.specs.Disk.{Disk}
use Rattle.iol_layout.specs.AreaPlans.{IsAreaPlan}
use Rattle.iol_layout.specs.Geometry.{Geometry}
use Rattle.iol_layout.specs.Layout.{laid_out}
use Rattle.iol_layout.specs.Meaning.{unformatted, geometry_in, meaning}
use Rattle.iol_layout.specs.Kept.{KeptMeans}
use Rattle.iol_layout.specs.declared.area.Area.TheVariants.{A}
use Rattle.iol_layout.specs.declared.header.Header.{Header}
use Rattle.iol_layout.specs.declared.area_plan.AreaPlan.{AreaPlan}
use Rattle.iol_journal.specs.declared.formatting.FormatFault.{FormatFault}
use Rattle.iol_journal.specs.declared.formatting.FormatFault.TheVariants.{Disk as DiskFailed}

-- a claim about a format that is refused before anything is written (own)
abbrev pub IfUntouched : FormatFault → Type 0 → Type 0
IfUntouched (DiskFailed fault) P = Unit {0}
IfUntouched fault P = P

-- an image of `sectors` sectors is an empty journal of this geometry: it is formatted for these ports and slots, is kept, and
-- means number 0 and the empty state (own)
pub record IsEmptyJournalOf (g : Geometry) (sectors : ℕ) (image : Image) : Type 0 where
  pub formatted : geometry_in sectors image ≡ Ok g
  pub empty : KeptMeans sectors 0 (empty_state g.ports) image

-- each image of an honest disk is an empty journal of this geometry (own)
abbrev pub EachIsEmptyJournal : Disk → Geometry → Type 0
EachIsEmptyJournal d g = IsTrue d.honest → EachImage d.content (IsEmptyJournalOf g d.sectors)

-- an image of `sectors` sectors is not formatted, or is an empty journal of this geometry (own)
abbrev pub IsEmptyOrUnformatted : Geometry → ℕ → Image → Type 0
IsEmptyOrUnformatted g sectors image = (meaning sectors image ≡ Err unformatted) ⊎ IsEmptyJournalOf g sectors image

-- each image of an honest disk since the first sync of a format, which advances the clock by one, is not formatted or is an empty
-- journal (own)
abbrev pub LeavesFormat : Geometry → Disk → Disk → Type 0
LeavesFormat g old new =
    IsTrue old.honest → clock old.content < clock new.content
    → (image : Image) → IsImageSince (clock old.content + 1) new.content image → IsEmptyOrUnformatted g old.sectors image

-- the header of the first area in a version: epoch 1, base 0 (format, Headers)
abbrev pub first_header : Version → Header
first_header version = record { epoch = 1; base = 0; version = Some version }

-- the plan of the first area of a disk of this geometry in a version: its header, and ports that were never configured (own)
abbrev pub IsFirstArea : Version → Geometry → AreaPlan → Type 0
IsFirstArea version g plan = IsAreaPlan (laid_out version g) A (first_header version) (empty_state g.ports) plan
