-- The disk calls that write a batch, in order.
use Rattle.std.specs.Prelude.{◌<◌, ℕ, ◌+◌, ◌-◌, nat_lt, if◌then◌else◌, List, [], ◌∷◌, ◌++◌, length, map, Option, Some, None}
use Rattle.std.specs.List.{range_with_len}
use Rattle.iol_types.specs.Command.{CommandValue}
use Rattle.iol_disk.specs.Calls.{Call, write, sync}
use Rattle.iol_disk.specs.Gate.{open_gate}
use Rattle.iol_layout.specs.Body.{body_octets}
use Rattle.iol_layout.specs.Layout.{slot_at, body_at}
use Rattle.iol_layout.specs.Meaning.{Standing}
use Rattle.iol_layout.specs.Octets.{sectors_reached, sector_of}
use Rattle.iol_journal.specs.declared.phase.Phase.{Phase}
use Rattle.iol_journal.specs.declared.phase.Phase.TheVariants.{Body, SyncBody, Gate, SyncGate}

-- the body of a batch that follows a journal: under the journal's epoch, with the next number (format, Slots)
abbrev pub body_for : Standing → List CommandValue → List ℕ
body_for s commands = body_octets s.epoch (s.number + 1) commands

-- the number of sectors that this body reaches (format, Slots)
abbrev pub sectors_for : Standing → List CommandValue → ℕ
sectors_for s commands = sectors_reached (length (body_for s commands))

-- the write of a sector of the body, from the first free slot on (format, Orders of disk calls)
abbrev pub body_write : Standing → List ℕ → ℕ → Call
body_write s body j = write (body_at s.layout s.area s.used j) (sector_of body j)

-- the write of the open gate of the first free slot (format, Orders of disk calls)
abbrev pub gate_write : Standing → Call
gate_write s = write (slot_at s.layout s.area s.used) open_gate

-- the disk calls of a batch: its body sector by sector, a sync, the open gate of its slot, a sync (format, Orders of
-- disk calls)
abbrev pub batch_calls : Standing → List CommandValue → List Call
batch_calls s commands =
    map (λ j. body_write s (body_for s commands) j) (range_with_len 0 (sectors_for s commands)) ++ (sync ∷ gate_write s ∷ sync ∷ [])

-- the disk calls of a batch from a phase on (format, Orders of disk calls)
abbrev pub calls_from : Standing → List ℕ → ℕ → Phase → List Call
calls_from s body sectors (Body j) = map (λ i. body_write s body i) (range_with_len j (sectors - j)) ++ (sync ∷ gate_write s ∷ sync ∷ [])
calls_from s body sectors SyncBody = sync ∷ gate_write s ∷ sync ∷ []
calls_from s body sectors Gate = gate_write s ∷ sync ∷ []
calls_from s body sectors SyncGate = sync ∷ []

-- the disk call of a phase (format, Orders of disk calls)
abbrev pub call_of : Standing → List ℕ → Phase → Call
call_of s body (Body j) = body_write s body j
call_of s body SyncBody = sync
call_of s body Gate = gate_write s
call_of s body SyncGate = sync

-- the phase after a phase: each sector of the body, its sync, the gate, the gate's sync (format, Orders of disk
-- calls)
abbrev pub next_phase : ℕ → Phase → Option Phase
next_phase sectors (Body j) = Some (if nat_lt (j + 1) sectors then Body (j + 1) else SyncBody)
next_phase sectors SyncBody = Some Gate
next_phase sectors Gate = Some SyncGate
next_phase sectors SyncGate = None

-- a phase of a batch whose body has `sectors` sectors (format, Orders of disk calls)
abbrev pub IsPhase : ℕ → Phase → Type 0
IsPhase sectors (Body j) = j < sectors
IsPhase sectors phase = Unit {0}
