-- What a stop leaves at any moment of a call, or of one run after another.
use Rattle.std.proofs.Common.{◌≡◌, inl, inr, ⊎_elim, ℕ, ◌≢◌, IsTrue, List, Result, Ok, Err, OnOk, OnErr, refl, sym, ◌∙◌, subst, arith}
use Rattle.iol_disk.specs.Content.{Image, Content, reads, IsImage, clock, wrote, synced}
use Rattle.iol_disk.specs.Disk.{Disk, After, Same, WroteSome}
use Rattle.iol_disk.specs.Moments.{LeavesOnly}
use Rattle.iol_disk.specs.declared.fault.DiskFault.{DiskFault}
use Rattle.iol_disk.proofs.Images.{Follows, follows-same, follows-wrote, follows-synced, since-now, image-wrote, image-synced}
use Rattle.iol_disk.proofs.Images.{reads-is_image}

-- before the first call
pub started : (d : Disk) (P : Image → Type 0) → (IsTrue d.honest → (image : Image) → IsImage d.content image → P image) → LeavesOnly d d P
started d P here = record {
  sectors = refl;
  honest = refl;
  failures = omega arith;
  later = λ h. omega arith;
  each = λ h image left. here h image (since-now d.content image left);
  before = λ h t image le left. inl left;
}

-- one more change, after which a stop leaves an image that has P
pub goes_on : (old mid new : Disk) (P : Image → Type 0) (change : Content → Content) → ((c : Content) → Follows c (change c))
    → LeavesOnly old mid P → After change mid new
    → (IsTrue old.honest → (image : Image) → IsImage new.content image → P image) → LeavesOnly old new P
goes_on old mid new P change law so_far after here = record {
  sectors = after.sectors ∙ so_far.sectors;
  honest = after.honest ∙ so_far.honest;
  failures = omega (arith, so_far.failures, after.failures);
  later = λ h. omega (arith, so_far.later h, (follows h).later);
  each = λ h image left. ⊎_elim (so_far.each h image) (here h image) ((follows h).since (clock old.content) image (so_far.later h) left);
  before = λ h t image le left.
      ⊎_elim (so_far.before h t image le) (λ is. inr (here h image is))
      ((follows h).since t image (omega (arith, le, so_far.later h)) left);
}
  where
    mid_honest : IsTrue old.honest → IsTrue mid.honest
    mid_honest h = subst IsTrue (sym so_far.honest) h

    follows : IsTrue old.honest → Follows mid.content new.content
    follows h = subst (λ (c : Content). Follows mid.content c) (sym (after.content (mid_honest h))) (law mid.content)

-- a write, whether or not it failed
pub wrote_some : (result : Result Unit DiskFault) (n : ℕ) (octets : List ℕ) (old new : Disk)
    → OnOk result (After (wrote n octets) old new) → OnErr result (WroteSome n old new) → WroteSome n old new
wrote_some (Ok done) n octets old new ok err = (octets, ok)
wrote_some (Err fault) n octets old new ok err = err

-- during a read, or a sync that fails
pub leaves_same : (old new : Disk) (P : Image → Type 0) → Same old new
    → (IsTrue old.honest → (image : Image) → IsImage old.content image → P image) → LeavesOnly old new P
leaves_same old new P after here =
    goes_on old old new P (λ c. c) follows-same (started old P here) after
    (λ h image is. here h image (subst (λ (c : Content). IsImage c image) (after.content h) is))

-- during a write
pub leaves_write : (n : ℕ) (old new : Disk) (P : Image → Type 0) → WroteSome n old new
    → (IsTrue old.honest → (image was : Image) → IsImage old.content was → ((i : ℕ) → i ≢ n → image i ≡ was i) → P image)
    → LeavesOnly old new P
leaves_write n old new P (octets, after) there =
    goes_on old old new P (wrote n octets) (follows-wrote n octets) (started old P (λ h image is. there h image image is (λ i other. refl)))
    after
    (λ h image is.
    let w = image-wrote n octets old.content image (subst (λ (c : Content). IsImage c image) (after.content h) is) in
    there h image w.0 w.1 w.2)

-- during a sync
pub leaves_sync : (old new : Disk) (P : Image → Type 0) → After synced old new
    → (IsTrue old.honest → (image : Image) → IsImage old.content image → P image) → LeavesOnly old new P
leaves_sync old new P after here =
    goes_on old old new P synced follows-synced (started old P here) after
    (λ h image is.
    subst P (sym (image-synced old.content image (subst (λ (c : Content). IsImage c image) (after.content h) is)))
    (here h (reads old.content) (reads-is_image old.content)))

-- one run after another
pub and_then : (old mid new : Disk) (P : Image → Type 0) → LeavesOnly old mid P → LeavesOnly mid new P → LeavesOnly old new P
and_then old mid new P first second = record {
  sectors = second.sectors ∙ first.sectors;
  honest = second.honest ∙ first.honest;
  failures = omega (arith, first.failures, second.failures);
  later = λ h. omega (arith, first.later h, second.later (mid_honest h));
  each = λ h image left. ⊎_elim (first.each h image) (λ p. p) (second.before (mid_honest h) (clock old.content) image (first.later h) left);
  before = λ h t image le left.
      ⊎_elim (first.before h t image le) (λ p. inr p) (second.before (mid_honest h) t image (omega (arith, le, first.later h)) left);
}
  where
    mid_honest : IsTrue old.honest → IsTrue mid.honest
    mid_honest h = subst IsTrue (sym first.honest) h

-- P implies Q on an honest disk
pub weaker : (old new : Disk) (P Q : Image → Type 0) → LeavesOnly old new P → (IsTrue old.honest → (image : Image) → P image → Q image)
    → LeavesOnly old new Q
weaker old new P Q leaves implies = record {
  sectors = leaves.sectors;
  honest = leaves.honest;
  failures = leaves.failures;
  later = leaves.later;
  each = λ h image left. implies h image (leaves.each h image left);
  before = λ h t image le left. ⊎_elim (λ was. inl was) (λ p. inr (implies h image p)) (leaves.before h t image le left);
}

-- what a stop may leave now is among what it may have left since
pub each_now : (old mid : Disk) (P : Image → Type 0) → LeavesOnly old mid P → IsTrue mid.honest → (image : Image)
    → IsImage mid.content image → P image
each_now old mid P leaves h image is = leaves.each (subst IsTrue leaves.honest h) image (inr is)

-- one more call that changes nothing
pub then_same : (old mid new : Disk) (P : Image → Type 0) → LeavesOnly old mid P → Same mid new → LeavesOnly old new P
then_same old mid new P leaves same = and_then old mid new P leaves (leaves_same mid new P same (each_now old mid P leaves))

-- a sync adds no image
pub quiet_sync : (old new : Disk) → After synced old new → LeavesOnly old new (IsImage old.content)
quiet_sync old new after = leaves_sync old new (IsImage old.content) after (λ h image is. is)
