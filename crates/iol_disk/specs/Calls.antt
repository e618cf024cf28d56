-- Orders of disk calls: what calls made one after another do to a disk, also if one of them failed.
use Rattle.std.specs.Prelude.{◌≡◌, ℕ, List, [], ◌∷◌, Some, slice_get, take, Result, Ok, Err}
use Rattle.iol_disk.specs.Content.{Content, wrote, synced}
use Rattle.iol_disk.specs.Disk.{Disk, After, Same, WroteSome, HasFailed}
use Rattle.iol_disk.specs.declared.fault.DiskFault.{DiskFault}
use Rattle.iol_disk.specs.declared.fault.DiskFault.TheVariants.{Write, Sync}

-- a disk call: a write of these octets to this sector, or a sync; a read changes nothing and is in no order (own)
pub data Call : Type 0 where
  write : (sector : ℕ) (octets : List ℕ) → Call
  sync : Call

-- the content after a call that succeeded (own)
abbrev pub content_after : Call → Content → Content
content_after (write sector octets) c = wrote sector octets c
content_after sync c = synced c

-- the content after these calls, one after another (own)
abbrev pub content_after_all : List Call → Content → Content
content_after_all [] c = c
content_after_all (call ∷ calls) c = content_after_all calls (content_after call c)

-- what these calls leave in their order, if each succeeds: on an honest disk the content after them, on any disk the same size
-- and no further failure (own)
pub record Made (calls : List Call) (old new : Disk) : Type 0 where
  pub after : After (content_after_all calls) old new
  pub no_failure : new.failures ≡ old.failures

-- the kind of fault with which a call fails (own)
abbrev pub fault_of : Call → DiskFault
fault_of (write sector octets) = Write
fault_of sync = Sync

-- what a failed call leaves: a write leaves its sector written with some octets, a sync leaves everything unchanged (own)
abbrev pub LeftBy : Call → Disk → Disk → Type 0
LeftBy (write sector octets) = WroteSome sector
LeftBy sync = Same

-- what these calls leave in their order up to one that failed: what those before it left, changed as by a failed call. The fault
-- is of its kind, and the failure was counted (own)
pub record FailedIn (calls : List Call) (fault : DiskFault) (old new : Disk) : Type 0 where
  pub place : ℕ
  pub call : Call
  pub between : Disk
  pub at_place : slice_get calls place ≡ Some call
  pub before : Made (take place calls) old between
  pub kind : fault ≡ fault_of call
  pub left : LeftBy call between new
  pub counted : HasFailed between new

-- the calls were made in their order: all succeeded, or those up to one that failed with this fault (format, Orders of
-- disk calls)
abbrev pub Makes : List Call → Disk → Disk → Result Unit DiskFault → Type 0
Makes calls old new (Ok done) = Made calls old new
Makes calls old new (Err fault) = FailedIn calls fault old new

-- the first of the calls was made, and these are left after it: it succeeded, or failed with this fault (format, Orders of
-- disk calls)
pub record MakesFirst (calls left : List Call) (old new : Disk) (result : Result Unit DiskFault) : Type 0 where
  pub call : Call
  pub order : calls ≡ call ∷ left
  pub makes : Makes (call ∷ []) old new result
