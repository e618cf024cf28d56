-- The number of disk calls of a checkpoint.
use Rattle.std.proofs.Common.{◌≤◌, ◌≡◌, ℕ, ◌+◌, ◌*◌, ◌-◌, List, [], ◌∷◌, ◌++◌, length, map, drop, arith, length-append}
use Rattle.std.specs.List.{range_with_len}
use Rattle.std.proofs.lemmas.List.{length-drop}
use Rattle.std.proofs.lemmas.List.FromFn.{length-map-range_with_len}
use Rattle.iol_types.specs.Command.{CommandValue}
use Rattle.iol_disk.specs.Calls.{sync}
use Rattle.iol_disk.specs.Disk.{Disk}
use Rattle.iol_layout.specs.AreaPlans.{AreRecords}
use Rattle.iol_layout.specs.AreaWrites.{slot_write, slot_writes}
use Rattle.iol_journal.specs.Batches.{body_for, sectors_for, body_write, gate_write, batch_calls, calls_from}
use Rattle.iol_journal.specs.BegunParts.{log_of, commands_owed, view_of, IsBegun}
use Rattle.iol_layout.specs.Body.{records_of, slots_for}
use Rattle.iol_journal.specs.Checkpoints.{target, first_of, all_but_first, with_batches}
use Rattle.iol_journal.specs.Checkpoints.{snapshot_writes, clearing_calls, close_write, gate_calls}
use Rattle.iol_journal.specs.Checkpoints.{carry_calls, carry_calls_from, last_calls, snapshot_calls, checkpoint_calls, stage_calls}
use Rattle.iol_journal.specs.Checkpoints.{IsStage}
use Rattle.iol_journal.specs.Pauses.{calls_of}
use Rattle.iol_journal.specs.Drafts.{IsSnapshot, AreOwed}
use Rattle.iol_layout.specs.Standings.{with_batch}
use Rattle.iol_layout.specs.Meaning.{Standing}
use Rattle.iol_journal.specs.declared.begun.Begun.{Begun}
use Rattle.iol_journal.specs.declared.phase.Phase.{Phase}
use Rattle.iol_journal.specs.declared.phase.Phase.TheVariants.{Body, SyncBody, Gate, SyncGate}
use Rattle.iol_layout.specs.declared.idle.Idle.{Idle}
use Rattle.iol_layout.specs.declared.idle.Idle.TheVariants.{Older, Closed}
use Rattle.iol_journal.specs.declared.stage.CheckpointStage.{CheckpointStage}
use Rattle.iol_journal.specs.declared.stage.CheckpointStage.TheVariants.{ClearHeader, SyncHeader, CloseGate, SyncClosed}
use Rattle.iol_journal.specs.declared.stage.CheckpointStage.TheVariants.{CloseSlot, SyncSlots}
use Rattle.iol_journal.specs.declared.stage.CheckpointStage.TheVariants.{WriteHeader, WriteRecord, SyncRecords, Carry, OpenGate, SyncOpen}
use Rattle.iol_journal.proofs.BatchCalls.{length-batch_calls}
use Rattle.iol_layout.proofs.Bodies.{length-body}
use Rattle.iol_layout.specs.Layout.{renewed, record_sectors}
use Rattle.iol_layout.proofs.Spans.{slots_of-some}

length-clearing : (t : Standing) (idle : Idle) → length (clearing_calls t idle) ≤ 2
length-clearing t Older = omega arith
length-clearing t Closed = omega arith

-- a batch has at most 19 calls for each slot
batch_most : (t : Standing) (batch : List CommandValue) → length (batch_calls t batch) ≤ 19 * slots_for batch
batch_most t batch =
    omega (arith, length-batch_calls t batch, length-body t.epoch (t.number + 1) batch, slots_of-some (length (records_of batch)))

-- so the owed batches have at most 19 calls for each slot that they take
pub carry_most : (t : Standing) (owed : List (List CommandValue))
    → length (carry_calls t owed) + 19 * t.used ≤ 19 * (with_batches t owed).used
carry_most t [] = omega arith
carry_most t (batch ∷ batches) =
    omega (
      arith,
      batch_most t batch,
      length-append (batch_calls t batch) (carry_calls (with_batch t batch) batches),
      carry_most (with_batch t batch) batches,
    )

-- the calls of the first owed batch, from a phase on
phase_most : (t : Standing) (batch : List CommandValue) (p : Phase)
    → length (calls_from t (body_for t batch) (sectors_for t batch) p) ≤ sectors_for t batch + 3
phase_most t batch (Body j) =
    omega (
      arith,
      length-append (map (λ i. body_write t (body_for t batch) i) (range_with_len j (sectors_for t batch - j))) (sync ∷ gate_write t ∷ sync
          ∷ []),
      length-map-range_with_len (λ i. body_write t (body_for t batch) i) j (sectors_for t batch - j),
    )
phase_most t batch SyncBody = omega arith
phase_most t batch Gate = omega arith
phase_most t batch SyncGate = omega arith

-- there are at most one call for each slot and each sector of records, nine more, and those of the owed
-- batches
pub at_most : (t : Standing) (owed : List (List CommandValue)) (idle : Idle) → AreRecords t.layout t.area t.state
    → length (checkpoint_calls t owed idle)
    ≤ t.layout.slots + record_sectors t.layout + 9 + length (carry_calls t owed)
at_most t owed idle records =
    let slots = length-map-range_with_len (slot_write t.layout t.area) 0 t.layout.slots in
    let behind = length-append (slot_writes t.layout t.area) (snapshot_calls t owed) in
    let whole = length-append (clearing_calls t idle) (close_write t ∷ sync ∷ (slot_writes t.layout t.area ++ snapshot_calls t owed)) in
    let snapshot = length-append (snapshot_writes t) (last_calls t owed) in
    let last = length-append (carry_calls t owed) (gate_calls t) in
    omega (arith, slots, behind, whole, snapshot, last, length-clearing t idle, records.at_most)

-- from a stage on there are no more calls than that
module _ (t : Standing) (owed : List (List CommandValue)) (records : ℕ) where
  abbrev Few : CheckpointStage → Type 0
  Few stage = length (stage_calls t owed stage) ≤ t.layout.slots + records + 9 + length (carry_calls t owed)

  snapshot : length (snapshot_calls t owed) ≡ 5 + length (snapshot_writes t) + length (carry_calls t owed)
  snapshot =
      omega (arith, length-append (snapshot_writes t) (last_calls t owed), length-append (carry_calls t owed) (gate_calls t))

  from_gate : (idle : Idle) → length (checkpoint_calls t owed idle)
      ≤ length (clearing_calls t idle) + 2 + t.layout.slots + length (snapshot_calls t owed)
  from_gate idle =
      omega (
        arith,
        length-map-range_with_len (slot_write t.layout t.area) 0 t.layout.slots,
        length-append (slot_writes t.layout t.area) (snapshot_calls t owed),
        length-append (clearing_calls t idle) (close_write t ∷ sync ∷ (slot_writes t.layout t.area ++ snapshot_calls t owed)),
      )

  carried : (owed : List (List CommandValue)) (p : Phase) → 1 ≤ length owed
      → length (carry_calls_from t (first_of owed) (all_but_first owed) p) ≤ 2 + length (carry_calls t owed)
  carried [] p some = absurd (omega (arith, some))
  carried (batch ∷ batches) p some =
      let rest = carry_calls (with_batch t batch) batches in
      omega (
        arith,
        phase_most t batch p,
        length-batch_calls t batch,
        length-append (batch_calls t batch) rest,
        length-append rest (gate_calls t),
        length-append (calls_from t (body_for t batch) (sectors_for t batch) p) (rest ++ gate_calls t),
      )

  pub stage_most : (stage : CheckpointStage) → (IsSnapshot stage → length (snapshot_writes t) ≤ records)
      → IsStage t.layout.slots (length (snapshot_writes t)) (sectors_for t (first_of owed)) (length owed) stage → Few stage
  stage_most ClearHeader few is = omega (arith, few tt, snapshot, from_gate Closed)
  stage_most SyncHeader few is = omega (arith, few tt, snapshot, from_gate Older)
  stage_most CloseGate few is = omega (arith, few tt, snapshot, from_gate Older)
  stage_most SyncClosed few is =
      omega (
        arith,
        few tt,
        snapshot,
        length-map-range_with_len (slot_write t.layout t.area) 0 t.layout.slots,
        length-append (slot_writes t.layout t.area) (snapshot_calls t owed),
      )
  stage_most (CloseSlot k) few is =
      omega (
        arith,
        few tt,
        snapshot,
        length-map-range_with_len (slot_write t.layout t.area) k (t.layout.slots - k),
        length-append (map (slot_write t.layout t.area) (range_with_len k (t.layout.slots - k))) (snapshot_calls t owed),
      )
  stage_most SyncSlots few is = omega (arith, few tt, snapshot)
  stage_most WriteHeader few is = omega (arith, few tt, snapshot)
  stage_most (WriteRecord i) few is =
      omega (
        arith,
        few tt,
        length-drop i (snapshot_writes t),
        length-append (drop i (snapshot_writes t)) (last_calls t owed),
        length-append (carry_calls t owed) (gate_calls t),
      )
  stage_most SyncRecords few is = omega (arith, length-append (carry_calls t owed) (gate_calls t))
  stage_most (Carry p) few is = omega (arith, carried owed p is.0)
  stage_most OpenGate few is = omega arith
  stage_most SyncOpen few is = omega arith

-- the owed batches fit the area
owed_within : (t : Standing) (owed : List (List CommandValue)) → t.used ≤ t.layout.slots → AreOwed t owed
    → (with_batches t owed).used ≤ t.layout.slots
owed_within t [] within are = within
owed_within t (batch ∷ batches) within are = owed_within (with_batch t batch) batches are.0.room are.1

-- a begun checkpoint makes at most 19 calls for each carried slot, in addition to those of a new one
pub begun_most : (d : Disk) (s : Standing) (b : Begun) → IsBegun d s b
    → length (calls_of s (view_of b)) ≤ 20 * (renewed s.layout).slots + record_sectors (renewed s.layout) + 9
begun_most d s b is =
    let t = target s (log_of b) in
    let owed = commands_owed b.owed.items in
    let few = stage_most t owed (t.layout.port_sectors * t.layout.ports) b.stage (λ snapshot. (is.drafted.fresh snapshot).records.at_most)
    is.drafted.in_stage in
    omega (arith, few, carry_most t owed, owed_within t owed is.drafted.resting.within is.drafted.owed_are)
