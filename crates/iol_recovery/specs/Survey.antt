-- The head of a slot, read without checking its batch.
use Rattle.std.specs.Prelude.{ℕ, if◌then◌else◌, Option, Some, None}
use Rattle.iol_disk.specs.Content.{Image}
use Rattle.iol_disk.specs.Gate.{is_open}
use Rattle.iol_layout.specs.Body.{head_of}
use Rattle.iol_layout.specs.Layout.{Layout, slot_at, body_at}
use Rattle.iol_layout.specs.declared.area.Area.{Area}
use Rattle.iol_layout.specs.declared.body.Head.{Head}

-- the head of a slot's body, if the slot's gate is open (format, Slots)
abbrev pub head_in : Layout → Image → Area → ℕ → Option Head
head_in layout image a k = if is_open (image (slot_at layout a k)) then Some (head_of (image (body_at layout a k 0))) else None
