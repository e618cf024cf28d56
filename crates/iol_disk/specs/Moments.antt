-- What a stop at any moment of a run of calls leaves.
use Rattle.std.specs.Prelude.{◌≡◌, ◌≤◌, ◌⊎◌, ℕ, IsTrue}
use Rattle.iol_disk.specs.Content.{Image, IsImageSince, clock}
use Rattle.iol_disk.specs.Disk.{Disk}

-- on an honest disk, a stop at any moment from `old` to `new`, even during a call, leaves an image that has P (own)
pub record LeavesOnly (old new : Disk) (P : Image → Type 0) : Type 0 where
  pub sectors : new.sectors ≡ old.sectors
  pub honest : new.honest ≡ old.honest
  pub failures : old.failures ≤ new.failures
  pub later : IsTrue old.honest → clock old.content ≤ clock new.content
  pub each : IsTrue old.honest → (image : Image) → IsImageSince (clock old.content) new.content image → P image
  -- for a run that began earlier: a stop leaves what it might have left before these calls, or an image that has P
  pub before : IsTrue old.honest → (t : ℕ) (image : Image) → t ≤ clock old.content
      → IsImageSince t new.content image → IsImageSince t old.content image ⊎ P image
