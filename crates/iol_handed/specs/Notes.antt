-- The reports of a caller on a port.
use Rattle.std.specs.Prelude.{ℕ, Bool, true, false, ◌==◌, if◌then◌else◌, Option, Some, None}
use Rattle.iol_port.specs.declared.action.TheConstants.{UPLOAD_REQUEST}
use Rattle.iol_handed.specs.declared.notes.Attention.{Attention}
use Rattle.iol_handed.specs.declared.notes.Attention.TheVariants as attention
use Rattle.iol_handed.specs.declared.notes.PortNotes.{PortNotes}

-- the event that is kept once one more comes: the last one, but always one by which a device asks for an upload (own)
abbrev pub event_kept : Option ℕ → ℕ → Option ℕ
event_kept None code = Some code
event_kept (Some kept) code = if kept == UPLOAD_REQUEST then Some kept else Some code

-- the reason why a port is called after a step: that its device is gone, until the port has heard it or is settled (own)
abbrev pub left_after : Attention → Bool → Attention
left_after attention.Gone true = attention.None
left_after attention.Gone false = attention.Gone
left_after _ ends = attention.None

-- the notes after a step, by whether it heard that the device is gone, and whether it settled the port (own)
abbrev pub noted_after : Attention → Bool → Bool → PortNotes
noted_after called heard settled = record { event = None; attention = left_after called (if heard then true else settled) }

-- the notes of a port of which nothing was reported (own)
abbrev pub no_notes : PortNotes
no_notes = record { event = None; attention = attention.None }
