-- A disk as contracts see it, and what its calls do to it.
use Rattle.std.specs.Prelude.{◌≡◌, ◌<◌, ◌≤◌, ◌⊎◌, ◌-◌, ◌^◌, ℕ, Bool, IsTrue, List, Result, Ok, Err}
use Rattle.iol_disk.specs.Content.{Content, wrote, Image, reads}
use Rattle.iol_disk.specs.declared.fault.DiskFault.{DiskFault}

-- a disk as contracts see it: its size, whether it is honest, the number of failed calls, and its content, which means
-- nothing if it is not honest (own)
pub record Disk : Type 0 where
  pub sectors : ℕ
  pub honest : Bool
  -- the number of calls that have failed
  pub failures : ℕ
  pub content : Content

-- a call changed the content of an honest disk in this way, kept size and honesty, and did not lower the count of
-- failures (own)
pub record After (change : Content → Content) (old new : Disk) : Type 0 where
  pub sectors : new.sectors ≡ old.sectors
  pub honest : new.honest ≡ old.honest
  pub failures : old.failures ≤ new.failures
  pub content : IsTrue old.honest → new.content ≡ change old.content

-- a call changed nothing but the count of failures (own)
abbrev pub Same : Disk → Disk → Type 0
Same old new = After (λ c. c) old new

-- after a failed write: the sector counts as written, with some octets (own)
abbrev pub WroteSome : ℕ → Disk → Disk → Type 0
WroteSome n old new = (octets : List ℕ) × After (wrote n octets) old new

-- the count of failures rose, or has reached the greatest number that it can hold (own)
abbrev pub HasFailed : Disk → Disk → Type 0
HasFailed old new = (old.failures < new.failures) ⊎ (2 ^ 64 - 1 ≤ new.failures)

-- a call that succeeded leaves the count of failures unchanged, and one that failed has this fault and was counted:
-- a fault is reported exactly if the count rose, except at the greatest number (own)
abbrev pub FailsOnlyAs : {T : Type 0} → DiskFault → Disk → Disk → Result T DiskFault → Type 0
FailsOnlyAs fault old new (Ok x) = new.failures ≡ old.failures
FailsOnlyAs fault old new (Err e) = (e ≡ fault) × HasFailed old new

-- if the disk is honest, what it reads as has this property (own)
abbrev pub Shows : Disk → (Image → Type 0) → Type 0
Shows d P = IsTrue d.honest → P (reads d.content)
