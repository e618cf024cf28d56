-- The images of a content, and how writes and syncs change them.
use Rattle.std.proofs.Common.{◌≡◌, ◌⊎◌, inl, inr, ⊎_elim, ℕ, ◌==◌, ◌≤◌, ◌≢◌, false, if◌then◌else◌, List, [], ◌∷◌, ◌++◌, length, drop}
use Rattle.std.proofs.Common.{Option, Some, None, is_some, unwrap_or, refl, sym, ◌∙◌, ap, subst, arith, length-append}
use std.Path.{fun_ext}
use Rattle.std.proofs.lemmas.Bool.Decides.{nat_tests}
use Rattle.std.proofs.lemmas.List.{drop-append-le}
use Rattle.iol_disk.specs.Content.{Image, Interval, IsImageOf, IsImageOfSome, Content, reads, now, IsImage, clock, IsImageSince, wrote}
use Rattle.iol_disk.specs.Content.{synced, IsSettled}

-- what a disk reads as is one of its images
pub reads-is_image : (c : Content) → IsImage c (reads c)
reads-is_image c i clean = none (c.written i) clean
  where
    none : (w : Option (List ℕ)) → is_some w ≡ false → unwrap_or w (c.durable i) ≡ c.durable i
    none None clean = refl
    none (Some w) clean = cc

-- if all is settled, there is no other image
pub image-settled : (c : Content) (image : Image) → IsSettled c → IsImage c image → image ≡ reads c
image-settled c image settled is = fun_ext (λ i. clean_sector i)
  where
    clean_sector : (i : ℕ) → image i ≡ reads c i
    clean_sector i = is i (ap is_some (settled i)) ∙ sym (ap (λ (w : Option (List ℕ)). unwrap_or w (c.durable i)) (settled i))

-- a sector that is not pending reads the same in each image
pub image-clean : (c : Content) (image : Image) (i : ℕ) → IsImage c image → c.written i ≡ None → image i ≡ reads c i
image-clean c image i is clean =
    is i (ap is_some clean) ∙ sym (ap (λ (w : Option (List ℕ)). unwrap_or w (c.durable i)) clean)

-- after a sync the only image is what was read before it
pub image-synced : (c : Content) (image : Image) → IsImage (synced c) image → image ≡ reads c
image-synced c image is = fun_ext (λ i. is i refl)

abbrev pub patched : ℕ → List ℕ → Image → Image
patched n octets image i = if i == n then octets else image i

-- an image after a write is one before it, except in the sector
pub image-wrote : (n : ℕ) (octets : List ℕ) (c : Content) (image : Image) → IsImage (wrote n octets c) image
    → (was : Image) × IsImage c was × ((i : ℕ) → i ≢ n → image i ≡ was i)
image-wrote n octets c image is = (patched n (c.durable n) image, was, λ i other. elsewhere i other)
  where
    was : IsImage c (patched n (c.durable n) image)
    was i clean = grind (arith, nat_tests, is i)

    elsewhere : (i : ℕ) → i ≢ n → image i ≡ patched n (c.durable n) image i
    elsewhere i other = grind (arith, nat_tests)

pub reads-wrote_here : (n : ℕ) (octets : List ℕ) (c : Content) → reads (wrote n octets c) n ≡ octets
reads-wrote_here n octets c = grind (arith, nat_tests)

pub reads-wrote_other : (n : ℕ) (octets : List ℕ) (c : Content) (i : ℕ) → i ≢ n → reads (wrote n octets c) i ≡ reads c i
reads-wrote_other n octets c i other = grind (arith, nat_tests)

-- the clock does not go back, and a stop since t leaves what it might have left before, or may leave now
pub record Follows (old new : Content) : Type 0 where
  pub later : clock old ≤ clock new
  pub since : (t : ℕ) (image : Image) → t ≤ clock old → IsImageSince t new image → IsImageSince t old image ⊎ IsImage new image

pub follows-same : (c : Content) → Follows c c
follows-same c = record { later = omega arith; since = λ t image le left. inl left }

pub follows-wrote : (n : ℕ) (octets : List ℕ) (c : Content) → Follows c (wrote n octets c)
follows-wrote n octets c = record {
  later = omega arith;
  since = λ t image le left. ⊎_elim (λ had. inl (inl had)) (λ is. inr is) left;
}

some-push : (past : List Interval) (e : Interval) (image : Image) → IsImageOfSome (past ++ e ∷ []) image → IsImageOfSome past image
    ⊎ IsImageOf e image
some-push [] e image (inl here) = inr here
some-push [] e image (inr none) = absurd none
some-push (p ∷ past) e image (inl here) = inl (inl here)
some-push (p ∷ past) e image (inr there) = ⊎_elim (λ had. inl (inr had)) (λ is. inr is) (some-push past e image there)

pub follows-synced : (c : Content) → Follows c (synced c)
follows-synced c = record {
  later = omega (arith, length-append c.past (now c ∷ []));
  since = λ t image le left.
      ⊎_elim
      (λ had. inl (some-push (drop t c.past) (now c) image
      (subst (λ (es : List Interval). IsImageOfSome es image) (drop-append-le t c.past (now c ∷ []) le) had)))
      (λ is. inr is)
      left;
}

-- what a stop since this moment leaves is what it may leave now
pub since-now : (c : Content) (image : Image) → IsImageSince (clock c) c image → IsImage c image
since-now c image (inl had) = absurd (none c.past had)
  where
    none : (past : List Interval) → IsImageOfSome (drop (length past) past) image → ⊥
    none [] had = had
    none (p ∷ past) had = none past had
since-now c image (inr is) = is
