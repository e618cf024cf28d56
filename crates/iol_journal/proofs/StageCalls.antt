-- The disk calls of a checkpoint, one after another.
use Rattle.std.proofs.Common.{◌≡◌, ◌≤◌, ◌<◌, ℕ, zero, suc, ◌+◌, ◌-◌, nat_lt, if◌then◌else◌, true, List, [], ◌∷◌, ◌++◌, length, map, drop}
use Rattle.std.proofs.Common.{slice_get, Option, Some, None, unwrap_or, IfSome, refl, sym, ◌∙◌, ap, arith, append_assoc}
use Rattle.std.specs.List.{range_with_len}
use Rattle.std.proofs.lemmas.Bool.Decides.{nat_tests}
use Rattle.std.proofs.Math.ListN.{drop_of_length-le}
use Rattle.iol_types.specs.Command.{CommandValue}
use Rattle.iol_disk.specs.Calls.{Call, sync}
use Rattle.iol_layout.specs.AreaWrites.{slot_write, slot_writes}
use Rattle.iol_journal.specs.Batches.{body_for, sectors_for, batch_calls, next_phase, IsPhase}
use Rattle.iol_journal.specs.Checkpoints.{snapshot_writes, gate_calls, carry_calls, last_calls, snapshot_calls}
use Rattle.iol_journal.specs.Checkpoints.{checkpoint_calls, first_stage, first_of, all_but_first, call_at, next_batch, next_stage}
use Rattle.iol_journal.specs.Checkpoints.{IsStage, log_after, owed_after, with_log, stage_calls}
use Rattle.iol_layout.specs.Standings.{with_batch}
use Rattle.iol_layout.specs.Meaning.{Log, Standing}
use Rattle.iol_journal.specs.declared.phase.Phase.{Phase}
use Rattle.iol_journal.specs.declared.phase.Phase.TheVariants.{Body, SyncBody, Gate, SyncGate}
use Rattle.iol_layout.specs.declared.idle.Idle.{Idle}
use Rattle.iol_layout.specs.declared.idle.Idle.TheVariants.{Older, Closed}
use Rattle.iol_journal.specs.declared.stage.CheckpointStage.{CheckpointStage}
use Rattle.iol_journal.specs.declared.stage.CheckpointStage.TheVariants.{ClearHeader, SyncHeader, CloseGate, SyncClosed}
use Rattle.iol_journal.specs.declared.stage.CheckpointStage.TheVariants.{CloseSlot, SyncSlots}
use Rattle.iol_journal.specs.declared.stage.CheckpointStage.TheVariants.{WriteHeader, WriteRecord, SyncRecords, Carry, OpenGate, SyncOpen}
use Rattle.iol_journal.proofs.BatchCalls.{first_call as first_of_batch, all_calls as all_of_batch, sectors_for-some}
use Rattle.iol_layout.proofs.Chains.{by_test}

-- the log of a journal in its area
abbrev pub log_in : Standing → Log
log_in t = record { used = t.used; number = t.number; state = t.state }

-- the standing of the area after the disk call of a stage
abbrev pub target_after : Standing → List (List CommandValue) → CheckpointStage → Standing
target_after t owed stage = with_log t (log_after (log_in t) owed stage)

-- the calls after one, with the next stage
abbrev pub calls_after : Standing → List (List CommandValue) → Option CheckpointStage → List Call
calls_after t owed (Some stage) = stage_calls t owed stage
calls_after t owed None = []

-- the call at a place, and those after it
drop-call : (calls : List Call) (i : ℕ) → i < length calls → drop i calls ≡ unwrap_or (slice_get calls i) sync ∷ drop (suc i) calls
drop-call [] i below = absurd (omega (arith, below))
drop-call (call ∷ calls) zero below = refl
drop-call (call ∷ calls) (suc i) below = drop-call calls i (omega (arith, below))

-- the owed batches, and the gate
owed_first : (t : Standing) (owed : List (List CommandValue)) (n : ℕ) → n ≡ length owed
    → carry_calls t owed ++ gate_calls t ≡ stage_calls t owed (next_batch n)
owed_first t [] n is = rw is refl
owed_first t (batch ∷ batches) n is =
    let more : nat_lt 0 n ≡ true = grind (arith, nat_tests, is) in
    let rest = carry_calls (with_batch t batch) batches in
    rw more
    (append_assoc (batch_calls t batch) rest (gate_calls t)
    ∙ ap (λ (calls : List Call). calls ++ (rest ++ gate_calls t)) (sym (all_of_batch t batch)))

-- after the first of them one batch fewer is owed
pub length-behind : (owed : List (List CommandValue)) → length owed - 1 ≡ length (all_but_first owed)
length-behind [] = omega arith
length-behind (batch ∷ batches) = omega arith

module _ (t : Standing) (owed : List (List CommandValue)) where
  abbrev records : ℕ
  records = length (snapshot_writes t)

  abbrev sectors : ℕ
  sectors = sectors_for t (first_of owed)

  slots_from : (k n : ℕ) → n ≡ t.layout.slots - k → map (slot_write t.layout t.area) (range_with_len k (t.layout.slots - k))
      ≡ map (slot_write t.layout t.area) (range_with_len k n)
  slots_from k n is = ap (λ (m : ℕ). map (slot_write t.layout t.area) (range_with_len k m)) (sym is)

  slot_first : (k : ℕ) → k < t.layout.slots → stage_calls t owed (CloseSlot k) ≡ slot_write t.layout t.area k
      ∷ stage_calls t owed (CloseSlot (k + 1))
  slot_first k below =
      ap (λ (calls : List Call). calls ++ snapshot_calls t owed) (slots_from k (suc (t.layout.slots - (k + 1))) (omega (arith, below)))

  slots_ended : (k : ℕ) → k + 1 ≡ t.layout.slots → stage_calls t owed (CloseSlot (k + 1)) ≡ snapshot_calls t owed
  slots_ended k last = ap (λ (calls : List Call). calls ++ snapshot_calls t owed) (slots_from (k + 1) 0 (omega (arith, last)))

  all_slots : 1 ≤ t.layout.slots → slot_writes t.layout t.area ++ snapshot_calls t owed ≡ stage_calls t owed (CloseSlot 0)
  all_slots some = ap (λ (calls : List Call). calls ++ snapshot_calls t owed) (sym (slots_from 0 t.layout.slots (omega arith)))

  record_first : (i : ℕ) → i < records → stage_calls t owed (WriteRecord i) ≡ call_at t owed (WriteRecord i)
      ∷ stage_calls t owed (WriteRecord (i + 1))
  record_first i below =
      let next : suc i ≡ i + 1 = omega arith in
      ap (λ (calls : List Call). calls ++ last_calls t owed) (drop-call (snapshot_writes t) i below)
      ∙ ap (λ (n : ℕ). call_at t owed (WriteRecord i) ∷ (drop n (snapshot_writes t) ++ last_calls t owed)) next

  records_ended : (n : ℕ) → n ≡ records → stage_calls t owed (WriteRecord n) ≡ last_calls t owed
  records_ended n last =
      let none : drop n (snapshot_writes t) ≡ [] = drop_of_length-le (snapshot_writes t) (omega (arith, last)) in
      ap (λ (calls : List Call). calls ++ last_calls t owed) none

  -- the next of two possible stages
  one_of : (n m : ℕ) (p q : CheckpointStage) (calls : List Call) → (n < m → calls ≡ stage_calls t owed p)
      → (m ≤ n → calls ≡ stage_calls t owed q)
      → calls ≡ calls_after t owed (Some (if nat_lt n m then p else q))
  one_of n m p q calls more last = by_test (nat_lt n m) _
      (λ less. rw less (more (grind (arith, nat_tests))))
      (λ no_less. rw no_less (last (grind (arith, nat_tests))))

  carry_phase : (p q : Phase) → IsPhase sectors p → next_phase sectors p ≡ Some q
      → stage_calls t owed (Carry p) ≡ call_at t owed (Carry p) ∷ stage_calls t owed (Carry q)
  carry_phase p q in_phase next =
      ap (λ (calls : List Call). calls ++ (carry_calls (with_batch t (first_of owed)) (all_but_first owed) ++ gate_calls t))
      (first_of_batch t (body_for t (first_of owed)) sectors p q in_phase next)

  -- the call of a stage, and those from the next stage on
  pub first_call : (stage : CheckpointStage) → 1 ≤ t.layout.slots → IsStage t.layout.slots records sectors (length owed) stage
      → stage_calls t owed stage ≡ call_at t owed stage
      ∷ calls_after (target_after t owed stage) (owed_after owed stage)
      (next_stage t.layout.slots records sectors (length owed) stage)
  first_call ClearHeader some in_stage = refl
  first_call SyncHeader some in_stage = refl
  first_call CloseGate some in_stage = refl
  first_call SyncClosed some in_stage = ap (λ (calls : List Call). sync ∷ calls) (all_slots some)
  first_call (CloseSlot k) some in_stage =
      slot_first k in_stage
      ∙ ap (λ (calls : List Call). slot_write t.layout t.area k ∷ calls)
      (one_of (k + 1) t.layout.slots (CloseSlot (k + 1)) SyncSlots _ (λ more. refl) (λ last. slots_ended k (omega (arith, last, in_stage))))
  first_call SyncSlots some in_stage = refl
  first_call WriteHeader some in_stage =
      ap (λ (calls : List Call). call_at t owed WriteHeader ∷ calls)
      (one_of 0 records (WriteRecord 0) SyncRecords (stage_calls t owed (WriteRecord 0)) (λ more. refl) (λ last.
      records_ended 0 (omega (arith, last))))
  first_call (WriteRecord i) some in_stage =
      record_first i in_stage
      ∙ ap (λ (calls : List Call). call_at t owed (WriteRecord i) ∷ calls)
      (one_of (i + 1) records (WriteRecord (i + 1)) SyncRecords _ (λ more. refl) (λ last.
      records_ended (i + 1) (omega (arith, last, in_stage))))
  first_call SyncRecords some in_stage = ap (λ (calls : List Call). sync ∷ calls) (owed_first t owed (length owed) refl)
  first_call (Carry (Body j)) some in_stage = carry_phase (Body j) _ in_stage.1 refl
  first_call (Carry SyncBody) some in_stage = refl
  first_call (Carry Gate) some in_stage = refl
  first_call (Carry SyncGate) some in_stage =
      ap (λ (calls : List Call). sync ∷ calls)
      (owed_first (with_batch t (first_of owed)) (all_but_first owed) (length owed - 1) (length-behind owed))
  first_call OpenGate some in_stage = refl
  first_call SyncOpen some in_stage = refl

  -- the calls from the first stage on are all calls
  pub all_calls : (idle : Idle) → stage_calls t owed (first_stage idle) ≡ checkpoint_calls t owed idle
  all_calls Older = refl
  all_calls Closed = refl

-- ---- the stage after a stage is a valid one

-- the first stage of an owed batch, or the gate
in_batch : (t : Standing) (slots records : ℕ) (owed : List (List CommandValue)) (n : ℕ) → n ≡ length owed
    → IsStage slots records (sectors_for t (first_of owed)) (length owed) (next_batch n)
in_batch t slots records [] n is = rw is refl
in_batch t slots records (batch ∷ batches) n is =
    let more : nat_lt 0 n ≡ true = grind (arith, nat_tests, is) in rw more (omega arith, omega (arith, sectors_for-some t batch))

module _ (t : Standing) (owed : List (List CommandValue)) (slots records : ℕ) where
  abbrev IsNext : Standing → List (List CommandValue) → Option CheckpointStage → Type 0
  IsNext t' owed' next = IfSome next (IsStage slots records (sectors_for t' (first_of owed')) (length owed'))

  pub in_next : (stage : CheckpointStage) → 1 ≤ slots → IsStage slots records (sectors_for t (first_of owed)) (length owed) stage
      → IsNext (target_after t owed stage) (owed_after owed stage)
      (next_stage slots records (sectors_for t (first_of owed)) (length owed) stage)
  in_next ClearHeader some in_stage = tt
  in_next SyncHeader some in_stage = tt
  in_next CloseGate some in_stage = tt
  in_next SyncClosed some in_stage = omega (arith, some)
  in_next (CloseSlot k) some in_stage = by_test (nat_lt (k + 1) slots) _ (λ less. rw less (grind (arith, nat_tests))) (λ last. rw last tt)
  in_next SyncSlots some in_stage = tt
  in_next WriteHeader some in_stage = by_test (nat_lt 0 records) _ (λ less. rw less (grind (arith, nat_tests))) (λ last. rw last tt)
  in_next (WriteRecord i) some in_stage =
      by_test (nat_lt (i + 1) records) _ (λ less. rw less (grind (arith, nat_tests))) (λ last. rw last tt)
  in_next SyncRecords some in_stage = in_batch t slots records owed (length owed) refl
  in_next (Carry (Body j)) some in_stage =
      by_test (nat_lt (j + 1) (sectors_for t (first_of owed))) _ (λ less. rw less (in_stage.0, grind (arith, nat_tests))) (λ last.
      rw last (in_stage.0, tt))
  in_next (Carry SyncBody) some in_stage = in_stage
  in_next (Carry Gate) some in_stage = in_stage
  in_next (Carry SyncGate) some in_stage =
      in_batch (with_batch t (first_of owed)) slots records (all_but_first owed) (length owed - 1) (length-behind owed)
  in_next OpenGate some in_stage = in_stage
  in_next SyncOpen some in_stage = tt
