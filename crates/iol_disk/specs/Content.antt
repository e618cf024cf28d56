-- What a disk holds, and what a power stop may leave on it.
use Rattle.std.specs.Prelude.{◌≡◌, ◌⊎◌, ◌==◌, ℕ, Bool, false, if◌then◌else◌, List, [], ◌∷◌, ◌++◌, length, drop, Option, Some, None}
use Rattle.std.specs.Prelude.{unwrap_or, is_some}

-- an image: the octets of each sector, by its number (own)
abbrev pub Image : Type 0
Image = ℕ → List ℕ

-- the interval between two syncs, at its end: what was durable, and which sectors were written (own)
pub record Interval : Type 0 where
  pub durable : Image
  pub pending : ℕ → Bool

-- what a stop at the end of an interval may leave: any octets in the sectors written in it, the durable ones
-- elsewhere (own)
abbrev pub IsImageOf : Interval → Image → Type 0
IsImageOf e image = (i : ℕ) → e.pending i ≡ false → image i ≡ e.durable i

-- what a stop at the end of one of these intervals may leave (own)
abbrev pub IsImageOfSome : List Interval → Image → Type 0
IsImageOfSome [] image = ⊥
IsImageOfSome (e ∷ es) image = IsImageOf e image ⊎ IsImageOfSome es image

-- what a disk holds: what is durable, what was written since the last sync, and the past intervals between syncs
-- (own)
pub record Content : Type 0 where
  -- what the last sync that succeeded made durable
  pub durable : Image
  -- the newest octets of each sector that was written since
  pub written : ℕ → Option (List ℕ)
  -- the intervals that a sync has ended, the first one first
  pub past : List Interval

-- what a read returns: the newest octets of a sector (own)
abbrev pub reads : Content → Image
reads c i = unwrap_or (c.written i) (c.durable i)

-- the interval since the last sync, as it is now (own)
abbrev pub now : Content → Interval
now c = record { durable = c.durable; pending = λ i. is_some (c.written i) }

-- what a power stop at this moment may leave: any octets in the sectors written since the last sync, the durable ones
-- elsewhere (own)
abbrev pub IsImage : Content → Image → Type 0
IsImage c image = IsImageOf (now c) image

-- each image that a power stop may leave now has this property (own)
abbrev pub EachImage : Content → (Image → Type 0) → Type 0
EachImage c P = (image : Image) → IsImage c image → P image

-- the number of syncs that have succeeded (own)
abbrev pub clock : Content → ℕ
clock c = length c.past

-- what a power stop at some moment since the clock showed t may leave (own)
abbrev pub IsImageSince : ℕ → Content → Image → Type 0
IsImageSince t c image = IsImageOfSome (drop t c.past) image ⊎ IsImage c image

-- the content after a write of these octets to a sector (own)
abbrev pub wrote : ℕ → List ℕ → Content → Content
wrote n octets c = record {
  durable = c.durable;
  written = λ i. if i == n then Some octets else c.written i;
  past = c.past;
}

-- the content after a sync: what was written is durable (own)
abbrev pub synced : Content → Content
synced c = record { durable = reads c; written = λ i. None; past = c.past ++ now c ∷ [] }

-- all that was written is durable: what is read is the only image (own)
abbrev pub IsSettled : Content → Type 0
IsSettled c = (i : ℕ) → c.written i ≡ None
