-- A batch written to the area in use does not change the area that a checkpoint writes.
use Rattle.std.proofs.Common.{◌≡◌, ◌≢◌, ◌≤◌, ◌<◌, ◌⊎◌, inl, inr, ℕ, zero, suc, ◌+◌, List, [], ◌∷◌, length, take, refl, ◌∙◌, ap, arith}
use Rattle.iol_types.specs.Command.{CommandValue}
use Rattle.iol_disk.specs.Calls.{Call, write, sync, content_after}
use Rattle.iol_disk.specs.Content.{Content, reads}
use Rattle.iol_disk.specs.Disk.{Disk}
use Rattle.iol_disk.proofs.DiskLaws.{reads-wrote_other}
use Rattle.iol_disk.specs.Gate.{is_open, open_gate}
use Rattle.iol_layout.specs.AreaPlans.{AreRecords}
use Rattle.iol_layout.specs.AreaWrites.{IsRow}
use Rattle.iol_journal.specs.Batches.{body_for, sectors_for, call_of, IsPhase}
use Rattle.iol_layout.specs.Body.{slots_for}
use Rattle.iol_journal.specs.Checkpoints.{target, first_of, snapshot_writes}
use Rattle.iol_journal.specs.Drafts.{AreShut, IsPrepared, OpensTo, CarryHolds, AreaHolds, IsDrafted}
use Rattle.iol_layout.specs.Header.{header_of}
use Rattle.iol_layout.specs.Standings.{with_batch}
use Rattle.iol_layout.specs.Layout.{Layout, other, renewed, area_sectors, gate_at, header_at, port_at, slot_at, body_at}
use Rattle.iol_layout.specs.Meaning.{Log, Standing}
use Rattle.iol_layout.specs.Octets.{sector_of}
use Rattle.iol_journal.specs.Phases.{HasWritten}
use Rattle.iol_layout.specs.declared.area.Area.{Area}
use Rattle.iol_layout.specs.declared.area.Area.TheVariants.{A, B}
use Rattle.iol_journal.specs.declared.phase.Phase.{Phase}
use Rattle.iol_journal.specs.declared.phase.Phase.TheVariants.{Body, SyncBody, Gate, SyncGate}
use Rattle.iol_layout.specs.declared.idle.Idle.TheVariants.{Older}
use Rattle.iol_journal.specs.declared.stage.CheckpointStage.{CheckpointStage}
use Rattle.iol_journal.specs.declared.stage.CheckpointStage.TheVariants.{ClearHeader, SyncHeader, CloseGate, SyncClosed}
use Rattle.iol_journal.specs.declared.stage.CheckpointStage.TheVariants.{CloseSlot, SyncSlots}
use Rattle.iol_journal.specs.declared.stage.CheckpointStage.TheVariants.{WriteHeader, WriteRecord, SyncRecords, Carry, OpenGate, SyncOpen}
use Rattle.iol_journal.proofs.Carrying.{was, was_kept, was_same}
use Rattle.iol_layout.proofs.Layouts.{gate-same}
use Rattle.iol_layout.proofs.OtherArea.{other_frame}
use Rattle.iol_journal.proofs.Phases.{IsFit, fit_for, some_slot}
use Rattle.iol_layout.proofs.Rows.{row-within, has-same}
use Rattle.iol_layout.proofs.Spans.{body_at-within}
use Rattle.iol_journal.proofs.Stages.{first_owed}

-- outside the slots of the area in use, reads do not change
abbrev pub LeavesOthers : Standing → Content → Content → Type 0
LeavesOthers s c c' = (i : ℕ) → (i < slot_at s.layout s.area 0) ⊎ (slot_at s.layout s.area s.layout.slots ≤ i) → reads c' i ≡ reads c i

-- each call of a batch keeps this
pub call_leaves : (s : Standing) (batch : List CommandValue) (body : List ℕ) (sectors : ℕ) (p : Phase) (c : Content)
    → IsFit s batch body sectors → IsPhase sectors p → LeavesOthers s c (content_after (call_of s body p) c)
call_leaves s batch body sectors (Body j) c fit in_phase i apart =
    reads-wrote_other (body_at s.layout s.area s.used j) (sector_of body j) c i (away apart)
  where
    within : body_at s.layout s.area s.used j < slot_at s.layout s.area (s.used + slots_for batch)
    within = body_at-within s.layout s.area s.used (slots_for batch) j (omega (arith, in_phase, fit.short))

    away : (i < slot_at s.layout s.area 0) ⊎ (slot_at s.layout s.area s.layout.slots ≤ i) → i ≢ body_at s.layout s.area s.used j
    away (inl before) = omega (arith, before)
    away (inr behind) = omega (arith, behind, within, fit.room)
call_leaves s batch body sectors SyncBody c fit in_phase i apart = refl
call_leaves s batch body sectors Gate c fit in_phase i apart =
    reads-wrote_other (slot_at s.layout s.area s.used) open_gate c i (away apart)
  where
    away : (i < slot_at s.layout s.area 0) ⊎ (slot_at s.layout s.area s.layout.slots ≤ i) → i ≢ slot_at s.layout s.area s.used
    away (inl before) = omega (arith, before)
    away (inr behind) = omega (arith, behind, fit.room, some_slot s Older batch body sectors fit)
call_leaves s batch body sectors SyncGate c fit in_phase i apart = refl

-- the sectors of the other area are outside those slots
apart_from : (layout : Layout) (a : Area) (i : ℕ) → gate_at layout (other a) ≤ i → i < gate_at layout (other a) + area_sectors layout
    → (i < slot_at layout a 0) ⊎ (slot_at layout a layout.slots ≤ i)
apart_from layout A i above below = inr (omega (arith, above))
apart_from layout B i above below = inl (omega (arith, below))

-- where these sectors are
twice : (layout : Layout) (a : Area) → gate_at layout (other (other a)) ≡ gate_at layout a
twice layout A = refl
twice layout B = refl

-- the first writes of a row
row-take : (n low high : ℕ) (calls : List Call) → IsRow low high calls → IsRow low high (take n calls)
row-take zero low high calls row = row-within low high calls row
row-take (suc n) low high [] row = row
row-take (suc n) low high (write sector octets ∷ calls) row = (row.0, row-take n (sector + 1) high calls row.1)
row-take (suc n) low high (sync ∷ calls) row = absurd row

module _ (size : ℕ) (s : Standing) (log : Log) (c c' : Content) (same : LeavesOthers s c c')
    (alike : area_sectors (renewed s.layout) ≡ area_sectors s.layout) where
  abbrev t : Standing
  t = target s log

  gates : (a : Area) → gate_at t.layout a ≡ gate_at s.layout a
  gates = gate-same t.layout s.layout alike

  in_other : (i : ℕ) → gate_at t.layout t.area ≤ i → i < gate_at t.layout t.area + area_sectors t.layout → reads c' i ≡ reads c i
  in_other i above below =
      same i (apart_from s.layout s.area i (omega (arith, above, gates (other s.area))) (omega (arith, below, gates (other s.area), alike)))

  -- what follows from an open gate
  opens_beside : (l : Log) → OpensTo size (target s l) c → OpensTo size (target s l) c'
  opens_beside l opens image read gate =
      let before = was size (target s l) c c' image opens read gate in
      let kept = was_kept size (target s l) c c' image opens read gate in
      let there = was_same size (target s l) c c' image opens read gate in
      let at_own = twice s.layout s.area in
      let header : image (header_at t.layout (other (other s.area))) ≡ before (header_at t.layout (other (other s.area))) =
      there (header_at t.layout (other (other s.area))) (λ away.
      same (header_at t.layout (other (other s.area))) (inl (omega (arith, at_own, gates (other (other s.area)))))) in
      other_frame (target s l) before image
      (λ i far. there i (λ away. same i (outside i far)))
      size Older Older kept (rw header kept.other_area)
    where
      outside : (i : ℕ) → (i < gate_at t.layout (other (other s.area)))
          ⊎ (gate_at t.layout (other (other s.area)) + area_sectors t.layout ≤ i)
          → (i < slot_at s.layout s.area 0) ⊎ (slot_at s.layout s.area s.layout.slots ≤ i)
      outside i (inl before) = inl (omega (arith, before, twice s.layout s.area, gates (other (other s.area))))
      outside i (inr behind) = inr (omega (arith, behind, twice s.layout s.area, gates (other (other s.area)), alike))

  shut_beside : (k : ℕ) → k ≤ t.layout.slots → AreShut t k (reads c) → AreShut t k (reads c')
  shut_beside k within shut j below =
      ap is_open (in_other (slot_at t.layout t.area j) (omega arith) (omega (arith, below, within))) ∙ shut j below

  -- what is read of a carried batch
  written_beside : (batch : List CommandValue) (n : ℕ) → IsFit t batch (body_for t batch) (sectors_for t batch) → n ≤ sectors_for t batch
      → HasWritten t (body_for t batch) n c → HasWritten t (body_for t batch) n c'
  written_beside batch n fit le has j below =
      let within = body_at-within t.layout t.area t.used (slots_for batch) j (omega (arith, below, le, fit.short)) in
      in_other (body_at t.layout t.area t.used j) (omega arith) (omega (arith, within, fit.room)) ∙ has j below

  carry_beside : (batch : List CommandValue) (p : Phase) → IsFit t batch (body_for t batch) (sectors_for t batch)
      → IsPhase (sectors_for t batch) p → CarryHolds size t batch p c → CarryHolds size t batch p c'
  carry_beside batch (Body j) fit in_phase holds =
      (opens_beside log holds.0, written_beside batch j fit (omega (arith, in_phase)) holds.1)
  carry_beside batch SyncBody fit in_phase holds =
      (opens_beside log holds.0, written_beside batch (sectors_for t batch) fit (omega arith) holds.1)
  carry_beside batch Gate fit in_phase holds =
      (opens_beside log holds.0, written_beside batch (sectors_for t batch) fit (omega arith) holds.1)
  carry_beside batch SyncGate fit in_phase holds =
      opens_beside (record { used = log.used + slots_for batch; number = log.number + length batch; state = (with_batch t batch).state })
      holds

  -- the records that are written so far
  prepared_beside : (n : ℕ) → AreRecords t.layout t.area t.state → IsPrepared t n (reads c) → IsPrepared t n (reads c')
  prepared_beside n records ready = record {
    shut = shut_beside t.layout.slots (omega arith) ready.shut;
    head = ap header_of (in_other (header_at t.layout t.area) (omega arith) (omega arith)) ∙ ready.head;
    written =
        has-same (port_at t.layout t.area 0) (slot_at t.layout t.area 0) (take n (snapshot_writes t)) (reads c) (reads c')
        (row-take n _ _ (snapshot_writes t) records.row) (λ i above below. in_other i (omega (arith, above)) (omega (arith, below)))
        ready.written;
  }

  -- all that is read of the area stays
  pub area_beside : (d : Disk) (owed : List (List CommandValue)) (stage : CheckpointStage) → IsDrafted d s t owed stage
      → AreaHolds size t owed stage c → AreaHolds size t owed stage c'
  area_beside d owed ClearHeader drafted holds = tt
  area_beside d owed SyncHeader drafted holds = rw (in_other (header_at t.layout t.area) (omega arith) (omega arith)) holds
  area_beside d owed CloseGate drafted holds = tt
  area_beside d owed SyncClosed drafted holds = ap is_open (in_other (gate_at t.layout t.area) (omega arith) (omega arith)) ∙ holds
  area_beside d owed (CloseSlot k) drafted holds = shut_beside k (omega (arith, drafted.in_stage)) holds
  area_beside d owed SyncSlots drafted holds = shut_beside t.layout.slots (omega arith) holds
  area_beside d owed WriteHeader drafted holds = shut_beside t.layout.slots (omega arith) holds
  area_beside d owed (WriteRecord i) drafted holds = prepared_beside i (drafted.fresh tt).records holds
  area_beside d owed SyncRecords drafted holds = prepared_beside (length (snapshot_writes t)) (drafted.fresh tt).records holds
  area_beside d owed (Carry p) drafted holds =
      carry_beside (first_of owed) p
      (fit_for t (first_of owed) (first_owed t owed drafted.in_stage.0 drafted.owed_are) drafted.resting.begun) drafted.in_stage.1 holds
  area_beside d owed OpenGate drafted holds = opens_beside log holds
  area_beside d owed SyncOpen drafted holds = tt
