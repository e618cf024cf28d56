-- What is read after a sync.
use Rattle.std.proofs.Common.{◌≡◌, ℕ, zero, suc, [], take}
use Rattle.std.proofs.Common.{◌∙◌, ap, subst, arith, ◌≡◌, ℕ, IsTrue, [], sym}
use Rattle.iol_disk.specs.Content.{Image, Content, IsImage, reads, synced}
use Rattle.iol_disk.specs.Calls.{Call, write, sync, content_after_all, fault_of}
use Rattle.iol_disk.proofs.DiskLaws.{image-synced}
use Rattle.iol_disk.specs.Disk.{Disk, After, Same}
use Rattle.iol_disk.specs.declared.fault.DiskFault.TheVariants.{Read}

-- no call is left after one call
pub left_behind : (c : Content) (image : Image) (place : ℕ) → IsImage (content_after_all (take {A = Call} place []) c) image
    → IsImage c image
left_behind c image zero is = is
left_behind c image (suc place) is = is

pub synced-honest : (old new : Disk) → After synced old new → IsTrue old.honest → IsTrue new.honest
synced-honest old new after h = subst IsTrue (sym after.honest) h

-- reads after a sync change nothing
pub synced-then : (old mid new : Disk) → After synced old mid → Same mid new → After synced old new
synced-then old mid new after same = record {
  sectors = same.sectors ∙ after.sectors;
  honest = same.honest ∙ after.honest;
  failures = omega (arith, after.failures, same.failures);
  content = λ h. same.content (synced-honest old mid after h) ∙ after.content h;
}

pub synced-reads : (old new : Disk) → After synced old new → IsTrue old.honest → reads new.content ≡ reads old.content
synced-reads old new after h = ap reads (after.content h)

pub synced-only : (old new : Disk) → After synced old new → IsTrue old.honest → (image : Image) → IsImage new.content image → image
    ≡ reads old.content
synced-only old new after h image is = image-synced old.content image (subst (λ (c : Content). IsImage c image) (after.content h) is)

-- no call but a read fails as one
pub no_read : (call : Call) → Read ≡ fault_of call → ⊥
no_read (write sector octets) is = cc
no_read sync is = cc
