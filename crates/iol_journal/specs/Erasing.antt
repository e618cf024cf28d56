-- The disk calls of an erasure, and what it leaves.
use Rattle.std.specs.Prelude.{◌≡◌, ◌<◌, ◌⊎◌, ℕ, Bool, true, false, IsTrue, List, [], ◌∷◌, Result, Ok, Err}
use Rattle.iol_disk.specs.Content.{Image, Content, IsImage, EachImage, reads}
use Rattle.iol_disk.specs.Calls.{Call, write, sync, content_after_all, Made, FailedIn}
use Rattle.iol_disk.specs.Disk.{Disk, After, HasFailed}
use Rattle.iol_disk.specs.declared.fault.DiskFault.{DiskFault}
use Rattle.iol_disk.specs.declared.fault.DiskFault.TheVariants.{Read}
use Rattle.iol_disk.specs.Gate.{closed_gate}
use Rattle.iol_layout.specs.Meaning.{unformatted, is_formatted, meaning}
use Rattle.iol_layout.specs.declared.geometry.TheConstants.{DISK_GATE}

-- the disk calls of an erasure, apart from reads: a sync and, if the gate of the disk reads open, the closed gate and a sync
-- (format, Orders of disk calls)
abbrev pub erase_calls : Bool → List Call
erase_calls true = sync ∷ write DISK_GATE closed_gate ∷ sync ∷ []
erase_calls false = sync ∷ []

-- an erasure made these calls: all if it succeeds, only the first sync if the read of the gate failed, and otherwise those up to
-- the one that failed (format, Orders of disk calls)
abbrev pub MakesErasureOf : Bool → Disk → Disk → Result Unit DiskFault → Type 0
MakesErasureOf gate old new (Ok done) = Made (erase_calls gate) old new
MakesErasureOf gate old new (Err Read) = After (content_after_all (sync ∷ [])) old new × HasFailed old new
MakesErasureOf gate old new (Err fault) = FailedIn (erase_calls gate) fault old new

-- an erasure took the gate of the disk for open or closed, on an honest disk as it reads, and made the calls for that; a disk
-- without that sector counts as closed (format, Orders of disk calls)
pub record MakesErasure (old new : Disk) (result : Result Unit DiskFault) : Type 0 where
  pub gate : Bool
  pub reads_so : IsTrue old.honest → gate ≡ is_formatted old.sectors (reads old.content)
  pub there : gate ≡ true → DISK_GATE < old.sectors
  pub made : MakesErasureOf gate old new result

-- an image of `sectors` sectors is not formatted, or means what an image of this content means (own)
abbrev pub MeansAsBeforeOrNothing : ℕ → Content → Image → Type 0
MeansAsBeforeOrNothing sectors c image =
    (meaning sectors image ≡ Err unformatted) ⊎ ((was : Image) × IsImage c was × (meaning sectors image ≡ meaning sectors was))

-- each image of an honest disk is not formatted (own)
abbrev pub EachUnformatted : Disk → Type 0
EachUnformatted d = IsTrue d.honest → EachImage d.content (λ image. meaning d.sectors image ≡ Err unformatted)
