-- Sequences of batches and checkpoints.
use Rattle.std.specs.Prelude.{◌≡◌, ℕ, ◌+◌, true, List, [], ◌∷◌, length}
use Rattle.std.specs.List.{flat_map}
use Rattle.iol_types.specs.Command.{CommandValue}
use Rattle.iol_types.specs.State.{State, after, legal}
use Rattle.iol_disk.specs.Disk.{Disk}
use Rattle.iol_disk.specs.Moments.{LeavesOnly}
use Rattle.iol_layout.specs.Kept.{KeptEither, EachMeans}

-- a stretch of disk calls: the commands of the batch that it writes, none if it is a checkpoint, and the disk that it
-- leaves (own)
pub record Stretch : Type 0 where
  pub commands : List CommandValue
  pub disk : Disk

-- the commands of stretches, in order (own)
abbrev pub commands_in : List Stretch → List CommandValue
commands_in stretches = flat_map (λ s. s.commands) stretches

-- the disk that stretches leave (own)
abbrev pub disk_after : Disk → List Stretch → Disk
disk_after old [] = old
disk_after old (s ∷ stretches) = disk_after s.disk stretches

-- stretches in sequence: each begins on a disk of which every image means the number and the state after those before
-- it; its commands pass; and at any moment of it an image is kept, and means the state before its commands or after
-- them. The last one need not have ended (own)
abbrev pub AreStretches : Disk → ℕ → State → List Stretch → Type 0
AreStretches old number state [] = Unit {0}
AreStretches old number state (s ∷ stretches) =
    EachMeans old number state × (legal state s.commands ≡ true) × LeavesOnly old s.disk (KeptEither old.sectors number state s.commands)
    × AreStretches s.disk (number + length s.commands) (after state s.commands) stretches
