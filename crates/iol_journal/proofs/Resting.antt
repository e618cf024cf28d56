-- After recovery from a kept image the journal is at rest.
use Rattle.std.proofs.Common.{◌≡◌, ℕ, nat_lt, Bool, true, false, if◌then◌else◌, IsTrue, Result, Ok, refl, sym, ◌∙◌, ap, subst, arith}
use Rattle.std.proofs.lemmas.Bool.Decides.{nat_tests}
use Rattle.iol_disk.specs.Content.{Image, IsImage, reads}
use Rattle.iol_types.specs.State.{State}
use Rattle.iol_disk.specs.Disk.{Disk, Shows}
use Rattle.iol_disk.proofs.DiskLaws.{reads-is_image}
use Rattle.iol_layout.specs.Layout.{other, header_at}
use Rattle.iol_layout.specs.Header.{header_of}
use Rattle.iol_record.specs.Reading.{◌>>=◌}
use Rattle.iol_layout.specs.Meaning.{Cause, Standing, Meaning, standing_in}
use Rattle.iol_layout.specs.Kept.{IsIdle, IsKept, IsKeptAs, KeptMeans, EachMeans}
use Rattle.iol_recovery.specs.Finding.{idle_in}
use Rattle.iol_journal.specs.Phases.{IsAtRest}
use Rattle.iol_layout.specs.declared.idle.Idle.{Idle}
use Rattle.iol_layout.specs.declared.idle.Idle.TheVariants.{Older, Closed}

same_standing : (s t : Standing) → ◌≡◌ {A = Result Standing Cause} (Ok s) (Ok t) → s ≡ t
same_standing s t is = cc

-- whatever makes the other area harmless, its header shows it
idle_by_header : (s : Standing) (idle : Idle) (image : Image) → IsIdle s idle image → IsIdle s (idle_in s image) image
idle_by_header s idle image is = by_test (nat_lt (header_of (image (header_at s.layout (other s.area)))).epoch s.epoch) refl idle is
  where
    by_test : (older : Bool) → nat_lt (header_of (image (header_at s.layout (other s.area)))).epoch s.epoch ≡ older
        → (idle : Idle) → IsIdle s idle image → IsIdle s (if older then Older else Closed) image
    by_test true test idle is = grind (arith, nat_tests)
    by_test false test Older is = absurd (grind (arith, nat_tests))
    by_test false test Closed is = is

-- a kept image is kept with the journal's standing on it
kept_as_found : (sectors : ℕ) (s : Standing) (image : Image) → IsKept sectors image → standing_in sectors image ≡ Ok s
    → IsKeptAs sectors s (idle_in s image) image
unfolding IsKept
kept_as_found sectors s image kept stands =
    let same = same_standing kept.0 s (sym kept.2.stands ∙ stands) in
    let kept_so = subst (λ (t : Standing). IsKeptAs sectors t kept.1 image) same kept.2 in
    record { stands = stands; rest = kept_so.rest; other_area = idle_by_header s kept.1 image kept_so.other_area }

pub at_rest_after : (old new : Disk) (s : Standing) (idle : Idle) → new.sectors ≡ old.sectors → new.honest ≡ old.honest
    → Shows old (λ image. standing_in old.sectors image ≡ Ok s)
    → Shows old (λ image. idle ≡ idle_in s image)
    → Shows old (λ read. (image : Image) → IsImage new.content image → image ≡ read)
    → Shows old (IsKept old.sectors) → IsAtRest new s idle
at_rest_after old new s idle sectors honest stands harmless only kept = λ h image is.
    let h' = subst IsTrue honest h in
    let found = kept_as_found old.sectors s (reads old.content) (kept h') (stands h') in
    let so = subst (λ (how : Idle). IsKeptAs old.sectors s how (reads old.content)) (sym (harmless h')) found in
    let here = subst (λ (at : Image). IsKeptAs old.sectors s idle at) (sym (only h' image is)) so in
    subst (λ (n : ℕ). IsKeptAs n s idle image) (sym sectors) here

-- what a standing means
abbrev meaning_of : Standing → Result Meaning Cause
meaning_of s = Ok (record { number = s.number; state = s.state })

same_meaning : (m n : Meaning) → ◌≡◌ {A = Result Meaning Cause} (Ok m) (Ok n) → m ≡ n
same_meaning m n is = cc

-- if all images of a disk mean the same, that is what is found, and each image still means it
pub means-after : (old new : Disk) (s : Standing) (idle : Idle) (number : ℕ) (state : State) → new.sectors ≡ old.sectors → new.honest
    ≡ old.honest
    → Shows old (λ image. standing_in old.sectors image ≡ Ok s)
    → Shows old (λ image. idle ≡ idle_in s image)
    → Shows old (λ read. (image : Image) → IsImage new.content image → image ≡ read)
    → IsTrue old.honest → EachMeans old number state
    → (s.number ≡ number) × (s.state ≡ state) × IsAtRest new s idle × EachMeans new number state
means-after old new s idle number state sectors honest stands harmless only h each =
    let here = each h (reads old.content) (reads-is_image old.content) in
    let same = same_meaning (record { number = s.number; state = s.state }) (record { number = number; state = state })
    (ap (λ (r : Result Standing Cause). r >>= meaning_of) (sym (stands h)) ∙ here.1) in (
      ap (λ (m : Meaning). m.number) same,
      ap (λ (m : Meaning). m.state) same,
      at_rest_after old new s idle sectors honest stands harmless only (λ _. here.0),
      λ h' image is. subst (λ (n : ℕ). KeptMeans n number state image) (sym sectors)
          (subst (KeptMeans old.sectors number state) (sym (only h image is)) here),
    )
