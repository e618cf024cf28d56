-- The batch of a slot's body is in the sectors that its records reach.
use Rattle.std.proofs.Common.{◌≡◌, ◌≤◌, ℕ, ◌+◌, ◌-◌, ◌*◌, true, false, if◌then◌else◌, List, [], ◌++◌, length, take, drop, None}
use Rattle.std.proofs.Common.{refl, sym, ◌∙◌, ap, subst, arith, add-zero}
use Rattle.std.specs.Int.{w16, w32, w64, from_be_bytes}
use Rattle.std.proofs.lemmas.List.{append-nil, take-append-le, drop-append-le, length-drop, length-take-le, take-append-drop}
use Rattle.iol_disk.specs.Content.{Image, reads}
use Rattle.iol_disk.specs.Disk.{Disk, Same, Shows}
use Rattle.iol_disk.specs.declared.disk.TheConstants.{SECTOR_OCTETS}
use Rattle.iol_record.specs.declared.version.Version.{Version}
use Rattle.iol_layout.specs.Octets.{octets_at, sector_of}
use Rattle.iol_layout.specs.Body.{head_of, fits, commands_of, batch_of, HoldsRecords}
use Rattle.iol_disk.specs.Gate.{body_sector}
use Rattle.iol_layout.specs.declared.body.Head.{Head}
use Rattle.iol_layout.specs.declared.body.TheConstants.{BODY_HEAD_OCTETS}
use Rattle.iol_layout.proofs.Sectors.{octets_at-add}
use Rattle.iol_disk.proofs.Unchanged.{same-honest, same-reads}

pub octets_at-one : (image : Image) (first : ℕ) → octets_at image first 1 ≡ image first
unfolding octets_at
octets_at-one image first = simp append-nil

-- the first sector is read
pub first_read : (now : Disk) (first : ℕ) (body longer : List ℕ) → body ≡ []
    → Shows now (λ image. longer ≡ body ++ image (first + 0))
    → Shows now (λ image. longer ≡ octets_at image first 1)
first_read now first body longer none more h =
    more h ∙ ap (λ (octets : List ℕ). octets ++ reads now.content (first + 0)) none
    ∙ ap (reads now.content) (add-zero first) ∙ sym (octets_at-one (reads now.content) first)

-- one more sector is read
pub one_more : (old now : Disk) (first j : ℕ) (body longer : List ℕ) → Same old now
    → Shows old (λ image. body ≡ octets_at image first j)
    → Shows now (λ image. longer ≡ body ++ image (first + j))
    → Shows old (λ image. longer ≡ octets_at image first (j + 1))
one_more old now first j body longer same so_far more h =
    more (same-honest old now same h)
    ∙ ap (λ (image : Image). body ++ image (first + j)) (same-reads old now same h)
    ∙ ap (λ (octets : List ℕ). octets ++ reads old.content (first + j)) (so_far h)
    ∙ ap (λ octets. octets_at (reads old.content) first j ++ octets) (sym (octets_at-one (reads old.content) (first + j)))
    ∙ sym (octets_at-add (reads old.content) first j 1)

-- the sectors of a body, as an image of their own
abbrev pub of_body : ℕ → Image → Image
of_body first image = λ j. image (body_sector first j)

-- the first sector of a body is read
pub first_of : (image : Image) (first : ℕ) (body : List ℕ) → body ≡ image first → body ≡ octets_at (of_body first image) 0 1
first_of image first body read =
    let place : first ≡ body_sector first 0 = omega arith in
    read ∙ ap image place ∙ sym (octets_at-one (of_body first image) 0)

pub first_of_body : (d : Disk) (first : ℕ) (body : List ℕ) → Shows d (λ image. body ≡ image first)
    → Shows d (λ image. body ≡ octets_at (of_body first image) 0 1)
first_of_body d first body read h = first_of (reads d.content) first body (read h)

-- one more sector of a body is read
pub next_of : (image : Image) (first j : ℕ) (body longer : List ℕ) → body ≡ octets_at (of_body first image) 0 j
    → longer ≡ body ++ image (body_sector first j)
    → longer ≡ octets_at (of_body first image) 0 (j + 1)
next_of image first j body longer so_far more =
    let place : 0 + j ≡ j = omega arith in
    more
    ∙ ap (λ (octets : List ℕ). octets ++ image (body_sector first j)) so_far
    ∙ ap (λ (i : ℕ). octets_at (of_body first image) 0 j ++ image (body_sector first i)) (sym place)
    ∙ ap (λ octets. octets_at (of_body first image) 0 j ++ octets) (sym (octets_at-one (of_body first image) (0 + j)))
    ∙ sym (octets_at-add (of_body first image) 0 j 1)

pub one_more_of_body : (old now : Disk) (first j : ℕ) (body longer : List ℕ) → Same old now
    → Shows old (λ image. body ≡ octets_at (of_body first image) 0 j)
    → Shows now (λ image. longer ≡ body ++ image (body_sector first j))
    → Shows old (λ image. longer ≡ octets_at (of_body first image) 0 (j + 1))
one_more_of_body old now first j body longer same so_far more h =
    next_of (reads old.content) first j body longer (so_far h)
    (more (same-honest old now same h) ∙ ap (λ (image : Image). body ++ image (body_sector first j)) (same-reads old now same h))

pub front-kept : (n place : ℕ) (body more : List ℕ) → place + n ≤ length body → take n (drop place (body ++ more))
    ≡ take n (drop place body)
front-kept n place body more within =
    ap (take n) (drop-append-le place body more (omega arith))
    ∙ take-append-le n (drop place body) more (omega (arith, length-drop place body))

pub head_of-append : (body more : List ℕ) → BODY_HEAD_OCTETS ≤ length body → head_of (body ++ more) ≡ head_of body
unfolding head_of
head_of-append body more some = λ i. record {
  epoch = ap (from_be_bytes w64) (front-kept 8 0 body more (omega arith)) i;
  first = ap (from_be_bytes w64) (front-kept 8 8 body more (omega arith)) i;
  count = ap (from_be_bytes w16) (front-kept 2 16 body more (omega arith)) i;
  octets = ap (from_be_bytes w32) (front-kept 4 18 body more (omega arith)) i;
}

-- the head is in the first sector
pub head_of-first : (body : List ℕ) (sectors : ℕ) → length body ≡ SECTOR_OCTETS * sectors → 1 ≤ sectors
    → head_of (sector_of body 0) ≡ head_of body
head_of-first body sectors whole some =
    let first = length-take-le SECTOR_OCTETS body (omega (arith, whole, some)) in
    sym (head_of-append (take SECTOR_OCTETS body) (drop SECTOR_OCTETS body) (omega (arith, first)))
    ∙ ap head_of (take-append-drop SECTOR_OCTETS body)

-- nothing is read after the octets that the head says
batch_of-append : (version : Version) (epoch first : ℕ) (body more : List ℕ) → BODY_HEAD_OCTETS ≤ length body
    → HoldsRecords body
    → batch_of version epoch first (body ++ more) ≡ batch_of version epoch first body
unfolding batch_of
batch_of-append version epoch first body more some reach = rw (head_of-append body more some) (by_head (head_of body) reach)
  where
    by_head : (head : Head) → BODY_HEAD_OCTETS + head.octets ≤ length body
        → (if fits head epoch first then commands_of version head.count (take head.octets (drop BODY_HEAD_OCTETS (body ++ more))) else None)
        ≡ (if fits head epoch first then commands_of version head.count (take head.octets (drop BODY_HEAD_OCTETS body)) else None)
    by_head head reach =
        ap (λ octets. if fits head epoch first then commands_of version head.count octets else None)
        (front-kept head.octets BODY_HEAD_OCTETS body more reach)

-- the sectors from the first one on begin with that one
first_sector : (image : Image) (sector n : ℕ) (front body : List ℕ) → 1 ≤ n → front ≡ octets_at image sector 1 → body
    ≡ octets_at image sector n
    → body ≡ front ++ octets_at image (sector + 1) (n - 1)
first_sector image sector n front body some first is =
    let count : n ≡ 1 + (n - 1) = omega arith in
    is ∙ ap (octets_at image sector) count ∙ octets_at-add image sector 1 (n - 1)
    ∙ ap (λ (octets : List ℕ). octets ++ octets_at image (sector + 1) (n - 1)) (sym first)

-- what was read: the first sector, and the sectors that its head says
pub record HaveRead (image : Image) (sector n most : ℕ) (front body : List ℕ) : Type 0 where
  pub some : 1 ≤ n
  pub within : n ≤ most
  pub first : front ≡ octets_at image sector 1
  pub all : body ≡ octets_at image sector n
  pub front_size : length front ≡ SECTOR_OCTETS
  pub size : length body ≡ SECTOR_OCTETS * n
  pub reach : BODY_HEAD_OCTETS + (head_of front).octets ≤ length body

pub holds_records : (image : Image) (sector n most : ℕ) (front body : List ℕ) → HaveRead image sector n most front body → HoldsRecords body
holds_records image sector n most front body read =
    let same : head_of body ≡ head_of front =
    ap head_of (first_sector image sector n front body read.some read.first read.all)
    ∙ head_of-append front (octets_at image (sector + 1) (n - 1)) (omega (arith, read.front_size)) in
    subst (λ (h : Head). BODY_HEAD_OCTETS + h.octets ≤ length body) (sym same) read.reach

-- their batch is that of the whole body
pub batch_of-front : (image : Image) (sector n most : ℕ) (front body : List ℕ) → HaveRead image sector n most front body
    → (version : Version) (epoch first : ℕ)
    → batch_of version epoch first body ≡ batch_of version epoch first (octets_at image sector most)
batch_of-front image sector n most front body read version epoch first =
    let count : n + (most - n) ≡ most = omega (arith, read.within) in
    sym (batch_of-append version epoch first body (octets_at image (sector + n) (most - n)) (omega (arith, read.size, read.some))
    (holds_records image sector n most front body read))
    ∙ ap (λ (octets : List ℕ). batch_of version epoch first (octets ++ octets_at image (sector + n) (most - n))) read.all
    ∙ ap (batch_of version epoch first) (sym (octets_at-add image sector n (most - n)) ∙ ap (octets_at image sector) count)

pub batch_of-misfit : (version : Version) (epoch first : ℕ) (body : List ℕ) (head : Head) → head ≡ head_of body → fits head epoch first
    ≡ false
    → batch_of version epoch first body ≡ None
unfolding batch_of
batch_of-misfit version epoch first body head is misfit = rw (← is, misfit) refl

pub batch_of-fits : (version : Version) (epoch first : ℕ) (body : List ℕ) (head : Head) → head ≡ head_of body → fits head epoch first ≡ true
    → batch_of version epoch first body ≡ commands_of version head.count (take head.octets (drop BODY_HEAD_OCTETS body))
unfolding batch_of
batch_of-fits version epoch first body head is fit = rw (← is, fit) refl
