-- What a format leaves after an erasure.
use Rattle.std.proofs.Common.{◌≡◌, ◌⊎◌, inl, inr, IsTrue, Bool, true, false, ◌&&◌, ℕ, sym, subst}
use Rattle.iol_disk.specs.Content.{Image, IsImage, reads}
use Rattle.iol_disk.specs.Disk.{Disk, Shows}
use Rattle.iol_disk.specs.Moments.{LeavesOnly}
use Rattle.iol_disk.proofs.DiskLaws.{and_then, each_now, weaker}
use Rattle.iol_journal.specs.Erasing.{MeansAsBeforeOrNothing}
use Rattle.iol_journal.specs.Formatting.{IsEmptyJournalOf, IsEmptyOrUnformatted}
use Rattle.iol_journal.specs.Geometry.{Geometry}

-- an image at a moment of a forced format means what one meant before, or nothing, or is an empty journal
abbrev pub IsOnTheWay : Geometry → Disk → Image → Type 0
IsOnTheWay g old image = MeansAsBeforeOrNothing old.sectors old.content image ⊎ IsEmptyJournalOf g old.sectors image

pub leaves_forced : (g : Geometry) (old between new : Disk) → LeavesOnly old between (MeansAsBeforeOrNothing old.sectors old.content)
    → LeavesOnly between new (λ image. IsImage between.content image ⊎ IsEmptyOrUnformatted g between.sectors image)
    → LeavesOnly old new (IsOnTheWay g old)
leaves_forced g old between new erased formatted =
    and_then old between new (IsOnTheWay g old)
    (weaker old between _ (IsOnTheWay g old) erased (λ h image is. inl is))
    (weaker between new _ (IsOnTheWay g old) formatted (λ h image is. on_the_way h image is))
  where
    later : (image : Image) → IsEmptyOrUnformatted g old.sectors image → IsOnTheWay g old image
    later image (inl nothing) = inl (inl nothing)
    later image (inr empty) = inr empty

    on_the_way : IsTrue between.honest → (image : Image) → IsImage between.content image ⊎ IsEmptyOrUnformatted g between.sectors image
        → IsOnTheWay g old image
    on_the_way h image (inl is) = inl (each_now old between _ erased h image is)
    on_the_way h image (inr is) = later image (subst (λ (sectors : ℕ). IsEmptyOrUnformatted g sectors image) erased.sectors is)

-- if both of two tests hold, the second holds
second_holds : (one two : Bool) → (one && two) ≡ true → two ≡ true
second_holds true two both = both
second_holds false two both = absurd (untrue both)
  where
    untrue : false ≡ true → ⊥
    untrue wrong = cc

-- an existing journal, with an open gate and on a disk large enough, is kept if it is not erased
pub kept_unforced : (large : Bool) (is_open : Image → Bool) (old between new : Disk) → between ≡ old
    → (Shows between (λ image. is_open image ≡ true) → LeavesOnly between new (IsImage between.content))
    → Shows old (λ image. (large && is_open image) ≡ true) → LeavesOnly old new (IsImage old.content)
kept_unforced large is_open old between new same kept formatted =
    subst (λ (d : Disk). LeavesOnly d new (IsImage d.content)) same
    (kept (subst (λ (d : Disk). Shows d (λ image. is_open image ≡ true)) (sym same)
    (λ honest. second_holds large (is_open (reads old.content)) (formatted honest))))
