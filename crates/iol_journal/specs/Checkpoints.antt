-- The disk calls of a checkpoint, in order.
use Rattle.std.specs.Prelude.{◌≡◌, ◌≤◌, ◌<◌, ℕ, ◌+◌, ◌-◌, nat_lt, Bool, true, false}
use Rattle.std.specs.Prelude.{if◌then◌else◌, List, [], ◌∷◌, ◌++◌, length, map, drop, slice_get, Option, Some, None, unwrap_or}
use Rattle.std.specs.List.{range_with_len}
use Rattle.iol_types.specs.Command.{CommandValue}
use Rattle.iol_types.specs.State.{after}
use Rattle.iol_disk.specs.Calls.{Call, write, sync}
use Rattle.iol_disk.specs.Gate.{open_gate, closed_gate}
use Rattle.iol_layout.specs.AreaWrites.{slot_write, slot_writes, header_write, port_writes}
use Rattle.iol_journal.specs.Batches.{body_for, sectors_for, batch_calls, calls_from, call_of, next_phase, IsPhase}
use Rattle.iol_journal.specs.BegunViews.{BegunView}
use Rattle.iol_layout.specs.Body.{slots_for}
use Rattle.iol_layout.specs.Standings.{with_batch}
use Rattle.iol_layout.specs.Layout.{other, renewed, gate_at}
use Rattle.iol_layout.specs.Meaning.{Log, Standing}
use Rattle.iol_layout.specs.declared.header.Header.{Header}
use Rattle.iol_journal.specs.declared.phase.Phase.{Phase}
use Rattle.iol_journal.specs.declared.phase.Phase.TheVariants.{Body, SyncGate}
use Rattle.iol_layout.specs.declared.idle.Idle.{Idle}
use Rattle.iol_layout.specs.declared.idle.Idle.TheVariants.{Older, Closed}
use Rattle.iol_journal.specs.declared.stage.CheckpointStage.{CheckpointStage}
use Rattle.iol_journal.specs.declared.stage.CheckpointStage.TheVariants.{ClearHeader, SyncHeader, CloseGate, SyncClosed}
use Rattle.iol_journal.specs.declared.stage.CheckpointStage.TheVariants.{CloseSlot, SyncSlots}
use Rattle.iol_journal.specs.declared.stage.CheckpointStage.TheVariants.{WriteHeader, WriteRecord, SyncRecords, Carry, OpenGate, SyncOpen}

-- the standing that a checkpoint writes: in the other area, in the newest layout, under the next epoch, with this log (own)
abbrev pub target : Standing → Log → Standing
target s log = record {
  layout = renewed s.layout;
  area = other s.area;
  epoch = s.epoch + 1;
  used = log.used;
  number = log.number;
  state = log.state;
}

-- the log of an area that has a journal's records, with no batch after them (own)
abbrev pub fresh_log : Standing → Log
fresh_log s = record { used = 0; number = s.number; state = s.state }

-- the standing after a checkpoint during which no batch was written: in the other area, under the next epoch, with no slot
-- used, at the same number and state (own)
abbrev pub checkpointed : Standing → Standing
checkpointed s = target s (fresh_log s)

-- a log with one more batch (own)
abbrev pub log_with : Log → List CommandValue → Log
log_with log batch = record { used = log.used + slots_for batch; number = log.number + length batch; state = after log.state batch }

-- the first owed batch; no commands if none is owed (own)
abbrev pub first_of : List (List CommandValue) → List CommandValue
first_of [] = []
first_of (batch ∷ batches) = batch

-- the owed batches after the first; none if none is owed (own)
abbrev pub all_but_first : {A : Type 0} → List A → List A
all_but_first [] = []
all_but_first (batch ∷ batches) = batches

-- the standing in the same area with this log (own)
abbrev pub with_log : Standing → Log → Standing
with_log t log =
    record { layout = t.layout; area = t.area; epoch = t.epoch; used = log.used; number = log.number; state = log.state }

-- the standing after batches (own)
abbrev pub with_batches : Standing → List (List CommandValue) → Standing
with_batches t [] = t
with_batches t (batch ∷ batches) = with_batches (with_batch t batch) batches

-- the header that is written to an area: its epoch, the number of commands so far, and its version (format, Orders of disk
-- calls)
abbrev pub header_of_target : Standing → Header
header_of_target t = record { epoch = t.epoch; base = t.number; version = Some t.layout.version }

-- the writes of the state's records (format, Orders of disk calls)
abbrev pub snapshot_writes : Standing → List Call
snapshot_writes t = port_writes t.layout t.area 0 t.state

-- if the header of the area is not older, it is made so first, because a write of the closed gate that a power stop tears may
-- leave it open (format, Orders of disk calls)
abbrev pub clearing_calls : Standing → Idle → List Call
clearing_calls t Older = []
clearing_calls t Closed = header_write t.layout t.area 0 0 ∷ sync ∷ []

-- the write that closes the gate of the area (format, Orders of disk calls)
abbrev pub close_write : Standing → Call
close_write t = write (gate_at t.layout t.area) closed_gate

-- the write that opens the gate of the area (format, Orders of disk calls)
abbrev pub open_write : Standing → Call
open_write t = write (gate_at t.layout t.area) open_gate

-- the open gate, and its sync (format, Orders of disk calls)
abbrev pub gate_calls : Standing → List Call
gate_calls t = open_write t ∷ sync ∷ []

-- the calls that carry the owed batches, each written as a batch into the first free slots (format, Orders of disk calls)
abbrev pub carry_calls : Standing → List (List CommandValue) → List Call
carry_calls t [] = []
carry_calls t (batch ∷ batches) = batch_calls t batch ++ carry_calls (with_batch t batch) batches

-- once all records are written: sync, the owed batches, the open gate, sync (format, Orders of disk calls)
abbrev pub last_calls : Standing → List (List CommandValue) → List Call
last_calls t owed = sync ∷ (carry_calls t owed ++ gate_calls t)

-- once all gates are closed: sync, the header, the records, and the last calls (format, Orders of disk calls)
abbrev pub snapshot_calls : Standing → List (List CommandValue) → List Call
snapshot_calls t owed = sync ∷ header_write t.layout t.area t.epoch t.number ∷ (snapshot_writes t ++ last_calls t owed)

-- the disk calls of a checkpoint that writes this area, with these batches owed (format, Orders of disk calls)
abbrev pub checkpoint_calls : Standing → List (List CommandValue) → Idle → List Call
checkpoint_calls t owed idle =
    clearing_calls t idle ++ (close_write t ∷ sync ∷ (slot_writes t.layout t.area ++ snapshot_calls t owed))

-- the first stage of a checkpoint, which depends on what makes the other area harmless (format, Orders of disk calls)
abbrev pub first_stage : Idle → CheckpointStage
first_stage Older = CloseGate
first_stage Closed = ClearHeader

-- a new checkpoint: no batch is owed (own)
abbrev pub new_begun : Standing → Idle → BegunView
new_begun s idle = record { log = fresh_log s; owed = []; stage = first_stage idle }

-- the disk call of a stage (format, Orders of disk calls)
abbrev pub call_at : Standing → List (List CommandValue) → CheckpointStage → Call
call_at t owed ClearHeader = header_write t.layout t.area 0 0
call_at t owed SyncHeader = sync
call_at t owed CloseGate = close_write t
call_at t owed SyncClosed = sync
call_at t owed (CloseSlot k) = slot_write t.layout t.area k
call_at t owed SyncSlots = sync
call_at t owed WriteHeader = header_write t.layout t.area t.epoch t.number
call_at t owed (WriteRecord i) = unwrap_or (slice_get (snapshot_writes t) i) sync
call_at t owed SyncRecords = sync
call_at t owed (Carry p) = call_of t (body_for t (first_of owed)) p
call_at t owed OpenGate = open_write t
call_at t owed SyncOpen = sync

-- the stage after the records or after a batch, with `owed` batches owed (format, Orders of disk calls)
abbrev pub next_batch : ℕ → CheckpointStage
next_batch owed = if nat_lt 0 owed then Carry (Body 0) else OpenGate

-- the stage after a call of a batch, the first of `owed` owed batches (format, Orders of disk calls)
abbrev pub next_carry : Option Phase → ℕ → CheckpointStage
next_carry (Some p) owed = Carry p
next_carry None owed = next_batch (owed - 1)

-- the stage after a stage, for these numbers of slots, sectors of records, sectors of the first owed batch, and owed batches
-- (format, Orders of disk calls)
abbrev pub next_stage : ℕ → ℕ → ℕ → ℕ → CheckpointStage → Option CheckpointStage
next_stage slots records sectors owed ClearHeader = Some SyncHeader
next_stage slots records sectors owed SyncHeader = Some CloseGate
next_stage slots records sectors owed CloseGate = Some SyncClosed
next_stage slots records sectors owed SyncClosed = Some (CloseSlot 0)
next_stage slots records sectors owed (CloseSlot k) = Some (if nat_lt (k + 1) slots then CloseSlot (k + 1) else SyncSlots)
next_stage slots records sectors owed SyncSlots = Some WriteHeader
next_stage slots records sectors owed WriteHeader = Some (if nat_lt 0 records then WriteRecord 0 else SyncRecords)
next_stage slots records sectors owed (WriteRecord i) = Some (if nat_lt (i + 1) records then WriteRecord (i + 1) else SyncRecords)
next_stage slots records sectors owed SyncRecords = Some (next_batch owed)
next_stage slots records sectors owed (Carry p) = Some (next_carry (next_phase sectors p) owed)
next_stage slots records sectors owed OpenGate = Some SyncOpen
next_stage slots records sectors owed SyncOpen = None

-- a stage of a checkpoint, for these numbers of slots, sectors of records, sectors of the first owed batch, and owed batches
-- (format, Orders of disk calls)
abbrev pub IsStage : ℕ → ℕ → ℕ → ℕ → CheckpointStage → Type 0
IsStage slots records sectors owed (CloseSlot k) = k < slots
IsStage slots records sectors owed (WriteRecord i) = i < records
IsStage slots records sectors owed (Carry p) = (1 ≤ owed) × IsPhase sectors p
IsStage slots records sectors owed OpenGate = owed ≡ 0
IsStage slots records sectors owed SyncOpen = owed ≡ 0
IsStage slots records sectors owed stage = Unit {0}

-- the disk call of the stage makes the open gate of a batch durable (own)
abbrev pub is_carried : CheckpointStage → Bool
is_carried (Carry SyncGate) = true
is_carried stage = false

-- the log after the disk call of a stage: a batch whose open gate is durable moves from the owed ones to the log (own)
abbrev pub log_after : Log → List (List CommandValue) → CheckpointStage → Log
log_after log owed stage = if is_carried stage then log_with log (first_of owed) else log

abbrev pub owed_after : {A : Type 0} → List A → CheckpointStage → List A
owed_after owed stage = if is_carried stage then all_but_first owed else owed

-- the disk calls of the first owed batch from a phase on, and of the batches after it (format, Orders of disk calls)
abbrev pub carry_calls_from : Standing → List CommandValue → List (List CommandValue) → Phase → List Call
carry_calls_from t batch batches p =
    calls_from t (body_for t batch) (sectors_for t batch) p ++ (carry_calls (with_batch t batch) batches ++ gate_calls t)

-- the disk calls of a checkpoint from a stage on (format, Orders of disk calls)
abbrev pub stage_calls : Standing → List (List CommandValue) → CheckpointStage → List Call
stage_calls t owed ClearHeader = checkpoint_calls t owed Closed
stage_calls t owed SyncHeader = sync ∷ checkpoint_calls t owed Older
stage_calls t owed CloseGate = checkpoint_calls t owed Older
stage_calls t owed SyncClosed = sync ∷ (slot_writes t.layout t.area ++ snapshot_calls t owed)
stage_calls t owed (CloseSlot k) = map (slot_write t.layout t.area) (range_with_len k (t.layout.slots - k)) ++ snapshot_calls t owed
stage_calls t owed SyncSlots = snapshot_calls t owed
stage_calls t owed WriteHeader = header_write t.layout t.area t.epoch t.number ∷ (snapshot_writes t ++ last_calls t owed)
stage_calls t owed (WriteRecord i) = drop i (snapshot_writes t) ++ last_calls t owed
stage_calls t owed SyncRecords = last_calls t owed
stage_calls t owed (Carry p) = carry_calls_from t (first_of owed) (all_but_first owed) p
stage_calls t owed OpenGate = gate_calls t
stage_calls t owed SyncOpen = sync ∷ []
