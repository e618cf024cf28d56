-- What is read after a sync, and what the parts that were read say of the journal.
use Rattle.std.proofs.Common.{◌≡◌, ℕ, IsTrue, [], ◌∷◌, Result, Ok, Err, sym, ◌∙◌, ap, subst}
use Rattle.iol_disk.specs.Content.{Image, reads, synced}
use Rattle.iol_disk.specs.Calls.{sync, FailedIn}
use Rattle.iol_disk.specs.Disk.{Disk, After, Same, Shows}
use Rattle.iol_disk.specs.declared.fault.DiskFault.{DiskFault}
use Rattle.iol_disk.specs.declared.fault.DiskFault.TheVariants.{Read, Write, Sync}
use Rattle.iol_layout.specs.Geometry.{Geometry}
use Rattle.iol_layout.specs.Layout.{Layout, layout_of}
use Rattle.iol_layout.specs.Meaning.{Cause, geometry_in, in_use_in}
use Rattle.iol_recovery.specs.Reading.{SaysWhy}
use Rattle.iol_recovery.specs.Finding.{HasChosen, MakesRecovery}
use Rattle.iol_layout.specs.declared.in_use.InUse.{InUse}
use Rattle.iol_recovery.specs.declared.cause.RecoverCause.{RecoverCause}
use Rattle.iol_recovery.specs.declared.cause.RecoverCause.TheVariants as cause
use Rattle.iol_disk.proofs.Synced.{synced-honest, synced-then, synced-reads, no_read}

-- what is found after a sync is what the disk read as before it
pub found_after : {Y : Type 0} (old new : Disk) (read : Image → Result Y Cause) (y : Y) → After synced old new
    → Shows new (λ image. read image ≡ Ok y) → Shows old (λ image. read image ≡ Ok y)
found_after old new read y after is h = ap read (sym (synced-reads old new after h)) ∙ is (synced-honest old new after h)

pub geometry_after : (old new : Disk) (g : Geometry) → After synced old new → Shows new (λ image. geometry_in new.sectors image ≡ Ok g)
    → Shows old (λ image. geometry_in old.sectors image ≡ Ok g)
geometry_after old new g after is h =
    ap (λ (n : ℕ). geometry_in n (reads old.content)) (sym after.sectors) ∙ found_after old new (geometry_in new.sectors) g after is h

-- a cause found in a part after a sync is the cause of the whole
pub cause_after : {Y Z : Type 0} (old mid : Disk) (part : Image → Result Y Cause) (whole : Image → Result Z Cause) (told : RecoverCause)
    → After synced old mid
    → (IsTrue old.honest → SaysWhy (part (reads old.content)) told → SaysWhy (whole (reads old.content)) told)
    → Shows mid (λ image. SaysWhy (part image) told) → Shows old (λ image. SaysWhy (whole image) told)
cause_after old mid part whole told after carries is = λ h.
    carries h (subst (λ (image : Image). SaysWhy (part image) told) (synced-reads old mid after h) (is (synced-honest old mid after h)))

-- the geometry is sound and an area is in use, if both were found after a sync
pub areas_found : (old first second : Disk) (g : Geometry) (layout : Layout) (used : InUse) → After synced old first → Same first second
    → layout ≡ layout_of g → Shows first (λ image. geometry_in first.sectors image ≡ Ok g)
    → Shows second (λ image. in_use_in layout image ≡ Ok used)
    → Shows old (λ image. (geometry_in old.sectors image ≡ Ok g) × (in_use_in (layout_of g) image ≡ Ok used))
areas_found old first second g layout used after same so found in_use h = (
  geometry_after old first g after found h,
  subst (λ (l : Layout). in_use_in l (reads old.content) ≡ Ok used) so
      (found_after old second (in_use_in layout) used (synced-then old first second after same) in_use h),
)

pub chosen_after : (old first second : Disk) (g : Geometry) (layout : Layout) (used : InUse) → After synced old first → Same first second
    → layout ≡ layout_of g → Shows first (λ image. geometry_in first.sectors image ≡ Ok g)
    → Shows second (λ image. in_use_in layout image ≡ Ok used)
    → Shows old (HasChosen old.sectors)
chosen_after old first second g layout used after same so found in_use h =
    let areas = areas_found old first second g layout used after same so found in_use h in (g, used, areas.0, areas.1)

-- a sync that failed ends a recovery
pub recovery_failed : (T : Type 0) (told : DiskFault) (old new : Disk) → FailedIn (sync ∷ []) told old new
    → MakesRecovery {T = T} old new (Err (cause.Disk told))
recovery_failed T Read old new failed = absurd (no_read failed.call failed.kind)
recovery_failed T Write old new failed = failed
recovery_failed T Sync old new failed = failed
