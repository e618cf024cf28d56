-- What a recovery finds, and the disk calls that it makes.
use Rattle.std.specs.Prelude.{◌≡◌, ℕ, nat_lt, if◌then◌else◌, [], ◌∷◌, Result, Ok, Err}
use Rattle.iol_disk.specs.Content.{Image}
use Rattle.iol_disk.specs.Calls.{sync, content_after_all, Made, FailedIn}
use Rattle.iol_disk.specs.Disk.{Disk, After, HasFailed}
use Rattle.iol_disk.specs.declared.fault.DiskFault.TheVariants.{Read}
use Rattle.iol_layout.specs.Geometry.{Geometry}
use Rattle.iol_layout.specs.Layout.{layout_of, other, header_at}
use Rattle.iol_layout.specs.Header.{header_of}
use Rattle.iol_layout.specs.Meaning.{Standing, geometry_in, in_use_in}
use Rattle.iol_layout.specs.declared.idle.Idle.{Idle}
use Rattle.iol_layout.specs.declared.idle.Idle.TheVariants.{Older, Closed}
use Rattle.iol_layout.specs.declared.in_use.InUse.{InUse}
use Rattle.iol_recovery.specs.declared.cause.RecoverCause.{RecoverCause}
use Rattle.iol_recovery.specs.declared.cause.RecoverCause.TheVariants as cause

-- why the other area is harmless: its header is older, or else its gate has to be closed (own)
abbrev pub idle_in : Standing → Image → Idle
idle_in s image = if nat_lt (header_of (image (header_at s.layout (other s.area)))).epoch s.epoch then Older else Closed

-- an image of this number of sectors has a sound geometry and an area in use (own)
abbrev pub HasChosen : ℕ → Image → Type 0
HasChosen sectors image =
    (g : Geometry) × (used : InUse) × (geometry_in sectors image ≡ Ok g) × (in_use_in (layout_of g) image ≡ Ok used)

-- a recovery makes one sync and reads: it fails in the sync or in a read, or counts no failure (format, Orders of
-- disk calls)
abbrev pub MakesRecovery : {T : Type 0} → Disk → Disk → Result T RecoverCause → Type 0
MakesRecovery old new (Ok x) = Made (sync ∷ []) old new
MakesRecovery old new (Err (cause.Disk Read)) = After (content_after_all (sync ∷ [])) old new × HasFailed old new
MakesRecovery old new (Err (cause.Disk fault)) = FailedIn (sync ∷ []) fault old new
MakesRecovery old new (Err other) = Made (sync ∷ []) old new
