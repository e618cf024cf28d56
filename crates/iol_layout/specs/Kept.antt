-- Images on which there is a journal that can continue.
use Rattle.std.specs.Prelude.{◌≡◌, ◌≤◌, ◌<◌, ◌⊎◌, ℕ, ◌+◌, false, IsTrue, List, length, Ok}
use Rattle.iol_types.specs.Command.{CommandValue}
use Rattle.iol_types.specs.State.{State, after}
use Rattle.iol_disk.specs.Content.{Image, EachImage}
use Rattle.iol_disk.specs.Disk.{Disk}
use Rattle.iol_disk.specs.Gate.{is_open}
use Rattle.iol_layout.specs.Layout.{other, gate_at, header_at, slot_at}
use Rattle.iol_layout.specs.Header.{header_of}
use Rattle.iol_layout.specs.Meaning.{Standing, standing_in, meaning}
use Rattle.iol_layout.specs.declared.idle.Idle.{Idle}
use Rattle.iol_layout.specs.declared.idle.Idle.TheVariants.{Older, Closed}

-- why the area that is not in use is harmless: its header is older, or its gate is closed (own)
abbrev pub IsIdle : Standing → Idle → Image → Type 0
IsIdle s Older image = (header_of (image (header_at s.layout (other s.area)))).epoch < s.epoch
IsIdle s Closed image = is_open (image (gate_at s.layout (other s.area))) ≡ false

-- a journal has this standing on the image, all gates after its used slots are closed, and the other area is harmless (own)
pub record IsKeptAs (sectors : ℕ) (s : Standing) (idle : Idle) (image : Image) : Type 0 where
  pub stands : standing_in sectors image ≡ Ok s
  pub rest : (k : ℕ) → s.used ≤ k → k < s.layout.slots → is_open (image (slot_at s.layout s.area k)) ≡ false
  pub other_area : IsIdle s idle image

-- an image is kept: there is a journal on it that can continue (own)
unfoldable pub IsKept : ℕ → Image → Type 0
IsKept sectors image = (s : Standing) × (idle : Idle) × IsKeptAs sectors s idle image

-- an image is kept, and means this number and state (own)
abbrev pub KeptMeans : ℕ → ℕ → State → Image → Type 0
KeptMeans sectors number state image = IsKept sectors image × (meaning sectors image ≡ Ok (record { number = number; state = state }))

-- an image is kept, and means the state before these commands or the state after them (own)
abbrev pub KeptEither : ℕ → ℕ → State → List CommandValue → Image → Type 0
KeptEither sectors number state commands image =
    KeptMeans sectors number state image ⊎ KeptMeans sectors (number + length commands) (after state commands) image

-- each image of an honest disk is kept, and means this number and state (own)
abbrev pub EachMeans : Disk → ℕ → State → Type 0
EachMeans d number state = IsTrue d.honest → EachImage d.content (KeptMeans d.sectors number state)
