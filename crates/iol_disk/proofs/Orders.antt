-- Calls made one after another, also if one of them failed: how such orders join.
use Rattle.std.proofs.Common.{Some, Bool, true, false, if◌then◌else◌, is_some, Option, ◌==◌, ◌≡◌, ℕ, ◌+◌, ◌<◌, ◌≤◌, IsTrue, List, [], ◌∷◌}
use Rattle.std.proofs.Common.{◌++◌, length, zero, take, slice_get, suc, refl, sym, ◌∙◌, ap, subst, arith}
use Rattle.std.proofs.Math.Seq.{take-append-add}
use Rattle.std.proofs.lemmas.List.{take-append-le}
use Rattle.std.proofs.lemmas.Option.{slice_get_within, same_Some}
use Rattle.iol_disk.specs.Content.{Image, Content, IsImage, wrote}
use Rattle.iol_disk.specs.Disk.{Disk, After, Same, HasFailed}
use Rattle.iol_disk.specs.Moments.{LeavesOnly}
use Rattle.iol_disk.specs.Calls.{Call, write, sync, content_after, content_after_all, Made, fault_of, LeftBy, FailedIn}
use Rattle.iol_disk.specs.declared.fault.DiskFault.{DiskFault}
use Rattle.iol_disk.proofs.Images.{Follows, follows-wrote, follows-synced}
use Rattle.iol_disk.proofs.Moments.{started, goes_on, leaves_same, and_then}

pub content_after_append : (first second : List Call) (c : Content) → content_after_all (first ++ second) c
    ≡ content_after_all second (content_after_all first c)
content_after_append [] second c = refl
content_after_append (call ∷ first) second c = content_after_append first second (content_after call c)

-- one change after another
after_after : (first second : Content → Content) (old between new : Disk) → After first old between → After second between new
    → After (λ c. second (first c)) old new
after_after first second old between new one two = record {
  sectors = two.sectors ∙ one.sectors;
  honest = two.honest ∙ one.honest;
  failures = omega (arith, one.failures, two.failures);
  content = λ h. two.content (subst IsTrue (sym one.honest) h) ∙ ap second (one.content h);
}

after_is : (change change' : Content → Content) (old new : Disk) → ((c : Content) → change c ≡ change' c) → After change old new
    → After change' old new
after_is change change' old new same after = record {
  sectors = after.sectors;
  honest = after.honest;
  failures = after.failures;
  content = λ h. after.content h ∙ same old.content;
}

pub made_none : (old new : Disk) → Same old new → new.failures ≡ old.failures → Made [] old new
made_none old new same quiet = record { after = same; no_failure = quiet }

pub made_one : (call : Call) (old new : Disk) → After (content_after call) old new → new.failures ≡ old.failures → Made (call ∷ []) old new
made_one call old new after quiet = record { after = after; no_failure = quiet }

pub made_append : (first second : List Call) (old between new : Disk) → Made first old between → Made second between new
    → Made (first ++ second) old new
made_append first second old between new one two = record {
  after = after_is _ _ old new (λ c. sym (content_after_append first second c)) (after_after _ _ old between new one.after two.after);
  no_failure = two.no_failure ∙ one.no_failure;
}

-- calls that change nothing and do not fail, such as reads, before, between and after
pub made_then_same : (calls : List Call) (old between new : Disk) → Made calls old between → Same between new → new.failures
    ≡ between.failures → Made calls old new
made_then_same calls old between new made same quiet = record {
  after = after_after _ _ old between new made.after same;
  no_failure = quiet ∙ made.no_failure;
}

pub failed_one : (call : Call) (fault : DiskFault) (old new : Disk) → fault ≡ fault_of call → LeftBy call old new → HasFailed old new
    → FailedIn (call ∷ []) fault old new
failed_one call fault old new kind left counted = record {
  place = 0;
  call = call;
  between = old;
  at_place = refl;
  before = made_none old old (record { sectors = refl; honest = refl; failures = omega arith; content = λ h. refl }) refl;
  kind = kind;
  left = left;
  counted = counted;
}

slice_get-append-lt : {A : Type 0} (xs ys : List A) (k : ℕ) → k < length xs → slice_get (xs ++ ys) k ≡ slice_get xs k
slice_get-append-lt [] ys k below = absurd (omega arith)
slice_get-append-lt (x ∷ xs) ys zero below = refl
slice_get-append-lt (x ∷ xs) ys (suc k) below = slice_get-append-lt xs ys k (omega arith)

slice_get-append-add : {A : Type 0} (xs ys : List A) (k : ℕ) → slice_get (xs ++ ys) (length xs + k) ≡ slice_get ys k
slice_get-append-add [] ys k = let e : 0 + k ≡ k = omega arith in ap (slice_get ys) e
slice_get-append-add (x ∷ xs) ys k =
    let e : suc (length xs) + k ≡ suc (length xs + k) = omega arith in
    ap (slice_get (x ∷ xs ++ ys)) e ∙ slice_get-append-add xs ys k

pub failed_first : (first second : List Call) (fault : DiskFault) (old new : Disk) → FailedIn first fault old new
    → FailedIn (first ++ second) fault old new
failed_first first second fault old new failed = record {
  place = failed.place;
  call = failed.call;
  between = failed.between;
  at_place = slice_get-append-lt first second failed.place (slice_get_within first failed.place failed.call failed.at_place)
      ∙ failed.at_place;
  before = subst (λ (calls : List Call). Made calls old failed.between) (sym (take-append-le failed.place first second within))
      failed.before;
  kind = failed.kind;
  left = failed.left;
  counted = failed.counted;
}
  where
    within : failed.place ≤ length first
    within = omega (arith, slice_get_within first failed.place failed.call failed.at_place)

pub failed_later : (first second : List Call) (fault : DiskFault) (old between new : Disk) → Made first old between
    → FailedIn second fault between new
    → FailedIn (first ++ second) fault old new
failed_later first second fault old between new made failed = record {
  place = length first + failed.place;
  call = failed.call;
  between = failed.between;
  at_place = slice_get-append-add first second failed.place ∙ failed.at_place;
  before = subst (λ (calls : List Call). Made calls old failed.between) (sym (take-append-add first second failed.place))
      (made_append first (take failed.place second) old between failed.between made failed.before);
  kind = failed.kind;
  left = failed.left;
  counted = failed.counted;
}

-- each image that a stop may leave on the way has P: before the first call, and after each
abbrev pub HasOnTheWay : List Call → Content → (Image → Type 0) → Type 0
HasOnTheWay calls c P = (place : ℕ) (image : Image) → IsImage (content_after_all (take place calls) c) image → P image

follows-call : (call : Call) (c : Content) → Follows c (content_after call c)
follows-call (write sector octets) c = follows-wrote sector octets c
follows-call sync c = follows-synced c

-- a stop at any moment of the calls then leaves an image that has P
pub made_leaves : (calls : List Call) (old new : Disk) (P : Image → Type 0) → Made calls old new
    → (IsTrue old.honest → HasOnTheWay calls old.content P) → LeavesOnly old new P
made_leaves [] old new P made has = leaves_same old new P made.after (λ h. has h 0)
made_leaves (call ∷ calls) old new P made has =
    and_then old between new P
    (goes_on old old between P (content_after call) (follows-call call) (started old P (λ h. has h 0)) first (λ h. has h 1))
    (made_leaves calls between new P rest (λ h place. has h (suc place)))
  where
    between : Disk
    between = record old { content = content_after call old.content }

    first : After (content_after call) old between
    first = record { sectors = refl; honest = refl; failures = omega arith; content = λ h. refl }

    rest : Made calls between new
    rest = record {
      after = record {
        sectors = made.after.sectors;
        honest = made.after.honest;
        failures = made.after.failures;
        content = made.after.content;
      };
      no_failure = made.no_failure;
    }

take-take : (calls : List Call) (n place : ℕ) → (less : ℕ) × (take n (take place calls) ≡ take less calls)
take-take calls zero place = (0, refl)
take-take [] (suc n) zero = (0, refl)
take-take [] (suc n) (suc place) = (0, refl)
take-take (call ∷ calls) (suc n) zero = (0, refl)
take-take (call ∷ calls) (suc n) (suc place) = let (less, same) = take-take calls n place in
    (suc less, ap (λ (cs : List Call). call ∷ cs) same)

one_call_on : (calls : List Call) (place : ℕ) (call : Call) (c : Content) → slice_get calls place ≡ Some call
    → content_after_all (take (suc place) calls) c ≡ content_after call (content_after_all (take place calls) c)
one_call_on [] place call c at = cc
one_call_on (here ∷ calls) zero call c at = ap (λ (k : Call). content_after k c) (same_Some here call at)
one_call_on (here ∷ calls) (suc place) call c at = one_call_on calls place call (content_after here c) at

-- a failed write leaves what a successful one may leave, and a failed sync leaves what was there
left_by_leaves : (call : Call) (old new : Disk) (P : Image → Type 0) → LeftBy call old new
    → (IsTrue old.honest → (image : Image) → IsImage old.content image → P image)
    → (IsTrue old.honest → (image : Image) → IsImage (content_after call old.content) image → P image) → LeavesOnly old new P
left_by_leaves (write sector octets) old new P (some, after) here there =
    goes_on old old new P (wrote sector some) (follows-wrote sector some) (started old P here) after
    (λ h image is. there h image (any_octets h image is))
  where
    either : (here : Bool) (had : Option (List ℕ)) → is_some (if here then Some octets else had) ≡ false
        → is_some (if here then Some some else had) ≡ false
    either true had clean = clean
    either false had clean = clean

    any_octets : IsTrue old.honest → (image : Image) → IsImage new.content image → IsImage (wrote sector octets old.content) image
    any_octets h image is i clean =
        (subst (λ (c : Content). IsImage c image) (after.content h) is) i (either (i == sector) (old.content.written i) clean)
left_by_leaves sync old new P same here there = leaves_same old new P same here

-- the same if a call failed
pub failed_leaves : (calls : List Call) (fault : DiskFault) (old new : Disk) (P : Image → Type 0) → FailedIn calls fault old new
    → (IsTrue old.honest → HasOnTheWay calls old.content P) → LeavesOnly old new P
failed_leaves calls fault old new P failed has =
    and_then old failed.between new P
    (made_leaves (take failed.place calls) old failed.between P failed.before
    (λ h n image is.
    let (less, same) = take-take calls n failed.place in
    has h less image (subst (λ (cs : List Call). IsImage (content_after_all cs old.content) image) same is)))
    (left_by_leaves failed.call failed.between new P failed.left
    (λ h image is. has (honest h) failed.place image (subst (λ (c : Content). IsImage c image) (failed.before.after.content (honest h)) is))
    (λ h image is. has (honest h) (suc failed.place) image (subst (λ (c : Content). IsImage c image) (behind (honest h)) is)))
  where
    honest : IsTrue failed.between.honest → IsTrue old.honest
    honest h = subst IsTrue failed.before.after.honest h

    behind : IsTrue old.honest → content_after failed.call failed.between.content
        ≡ content_after_all (take (suc failed.place) calls) old.content
    behind h = ap (content_after failed.call) (failed.before.after.content h)
        ∙ sym (one_call_on calls failed.place failed.call old.content failed.at_place)
