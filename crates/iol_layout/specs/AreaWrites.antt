-- The writes of an area: the closed gates of its slots, its header, and the records of a state's ports.
use Rattle.std.specs.Prelude.{◌≡◌, ◌≤◌, ℕ, ◌+◌, List, [], ◌∷◌, ◌++◌, length, map}
use Rattle.std.specs.List.{range_with_len}
use Rattle.iol_types.specs.State.{State}
use Rattle.iol_record.specs.Record.{port_octets}
use Rattle.iol_disk.specs.Calls.{Call, write, sync}
use Rattle.iol_disk.specs.Content.{Image}
use Rattle.iol_disk.specs.Gate.{closed_gate}
use Rattle.iol_layout.specs.Header.{header_octets}
use Rattle.iol_layout.specs.Layout.{Layout, header_at, port_at, slot_at}
use Rattle.iol_layout.specs.Octets.{padded, sectors_reached, sector_of}
use Rattle.iol_layout.specs.declared.area.Area.{Area}

-- the write that closes the gate of a slot; slots are counted from 0 (format, Orders of disk calls)
abbrev pub slot_write : Layout → Area → ℕ → Call
slot_write layout a k = write (slot_at layout a k) closed_gate

-- the writes that close the gates of all slots of an area (format, Orders of disk calls)
abbrev pub slot_writes : Layout → Area → List Call
slot_writes layout a = map (slot_write layout a) (range_with_len 0 layout.slots)

-- the write of an area's header (format, Orders of disk calls)
abbrev pub header_write : Layout → Area → ℕ → ℕ → Call
header_write layout a epoch base = write (header_at layout a) (header_octets layout.version epoch base)

-- the writes of a record to the sectors that it reaches, from the first one on (format, Orders of disk calls)
abbrev pub record_writes : ℕ → List ℕ → List Call
record_writes first octets = map (λ j. write (first + j) (sector_of (padded octets) j)) (range_with_len 0 (sectors_reached (length octets)))

-- the writes of the records of ports, the first of which is in place p; places are counted from 0 (format, Orders
-- of disk calls)
abbrev pub port_writes : Layout → Area → ℕ → State → List Call
port_writes layout a p [] = []
port_writes layout a p (port ∷ ports) = record_writes (port_at layout a p) (port_octets layout.version port)
    ++ port_writes layout a (p + 1) ports

-- writes to rising sectors, all from `low` on and below `high` (own)
abbrev pub IsRow : ℕ → ℕ → List Call → Type 0
IsRow low high [] = low ≤ high
IsRow low high (write sector octets ∷ calls) = (low ≤ sector) × IsRow (sector + 1) high calls
IsRow low high (sync ∷ calls) = ⊥

-- an image has all that these calls write (own)
abbrev pub HasWrites : List Call → Image → Type 0
HasWrites [] image = Unit {0}
HasWrites (write sector octets ∷ calls) image = (image sector ≡ octets) × HasWrites calls image
HasWrites (sync ∷ calls) image = HasWrites calls image
